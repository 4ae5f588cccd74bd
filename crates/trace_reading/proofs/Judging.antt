-- An entry that was guessed is read, or none is.
use Rattle.std.proofs.Common.{◌≡◌, ◌-◌, true, false, ◌&&◌, length, take, bytes_eq, Some, None, sym, ◌∙◌, subst}
use Rattle.bus_semantics.specs.Common.{and_parts, and_from, bytes_eq-Decides, Plan, IsReadingOf, item_fits, Item, idle, made, run_begins, run_closes, unsettled, Letters, entry_text}
use Rattle.bus_semantics.specs.Common.{item_text}
use Rattle.bus_laws.specs.Common.{Entry, Version}
use Rattle.trace_reading.specs.Guess.{guess_of}
use Rattle.trace_reading.proofs.Guessing.{reading_guessed}
use Rattle.trace_reading.proofs.Naming.{IsNamed}

pub is_read : (v : Version) (p : Plan) (line : Letters) (e : Entry) → (item_fits p (made e) && bytes_eq (entry_text v p e) line) ≡ true → IsReadingOf v p line (made e)
is_read v p line e h =
    let two = and_parts (item_fits p (made e)) (bytes_eq (entry_text v p e) line) h in
    record { fit = two.0; text = sym ((bytes_eq-Decides (entry_text v p e) line).0 two.1) }

pub none_read : (v : Version) (p : Plan) → IsNamed p → (line : Letters) → guess_of v p (take (length line - 1) line) ≡ None → (e : Entry) → IsReadingOf v p line (made e) → ⊥
none_read v p r line none e k = let some : guess_of v p (take (length line - 1) line) ≡ Some e = reading_guessed v p r line e k in cc

pub other_read : (v : Version) (p : Plan) → IsNamed p → (line : Letters) (e : Entry) → guess_of v p (take (length line - 1) line) ≡ Some e
    → (item_fits p (made e) && bytes_eq (entry_text v p e) line) ≡ false → (d : Entry) → IsReadingOf v p line (made d) → ⊥
other_read v p r line e found h d k =
    let same : Some d ≡ Some e = sym (reading_guessed v p r line d k) ∙ found in
    let one : d ≡ e = cc in
    let j : IsReadingOf v p line (made e) = subst (λ x. IsReadingOf v p line (made x)) one k in
    let all = and_from (item_fits p (made e)) (bytes_eq (entry_text v p e) line) j.fit ((bytes_eq-Decides (entry_text v p e) line).1 (sym j.text)) in
    let never : true ≡ false = sym all ∙ h in cc

-- ---- whole items

pub differ : (t u w : Letters) → bytes_eq t u ≡ false → u ≡ w → t ≡ w → ⊥
differ t u w h e f = let same : bytes_eq t u ≡ true = (bytes_eq-Decides t u).1 (f ∙ sym e) in cc

pub no_item : (v : Version) (p : Plan) (line : Letters) → ((e : Entry) → IsReadingOf v p line (made e) → ⊥) → (line ≡ item_text v p run_begins → ⊥)
    → (line ≡ item_text v p (run_closes idle) → ⊥) → (line ≡ item_text v p (run_closes unsettled) → ⊥) → (i : Item) → IsReadingOf v p line i → ⊥
no_item v p line a b c d (made e) k = a e k
no_item v p line a b c d run_begins k = b k.text
no_item v p line a b c d (run_closes idle) k = c k.text
no_item v p line a b c d (run_closes unsettled) k = d k.text
