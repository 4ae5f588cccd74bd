-- What a line of a coherent list has in place of a name: its place, and one digit for each element. Both are read back.
use Rattle.std.proofs.Common.{◌≡◌, ℕ, suc, ◌+◌, ◌*◌, ◌/◌, ◌%◌, ◌^◌, ◌<◌, ◌≤◌, Bool, true, false, ◌&&◌, ◌==◌, not, cond, List, [], ◌∷◌, ◌++◌, length, codes, decimal, Option, Some, None, refl}
use Rattle.std.proofs.Common.{sym, ap, ◌∙◌, arith}
use Rattle.bus_semantics.specs.Common.{slice_get, option_and_then, option_map_or, and_parts, eqb-true, le-leb, lt-ltb, ltb-true, ActKey, elems_of, list_fits, marks_fit, Plan, Runnable}
use Rattle.bus_semantics.specs.Common.{is_index, lists_sound, mask_text, position_of}
use Rattle.std.proofs.Math.Nat.{pow-succ'}
use Rattle.std.proofs.lemmas.Bool.{eqb-false}
use Rattle.bus_laws.specs.Common.{Act, CoherentList}
use Rattle.bus_laws.proofs.ListFacts.{Listed, list_number, list_position, lists_before, listed}
use Rattle.bus_laws.proofs.Thinning.{found_where}
use Rattle.trace_text.proofs.Places.{elems_few}
use Rattle.trace_text.proofs.ShortLines.{mask_length}
use Rattle.trace_reading.specs.Lists.{list_at, list_in, marks_at, marks_in}
use Rattle.trace_reading.proofs.Things.{IsRead}
use Rattle.trace_reading.proofs.Values.{number_back}

-- ---- its place

pub list_read : (p : Plan) → lists_sound p ≡ true → (k : ActKey) (reads : Bool) (l : ℕ) → list_fits p k.runnable reads l ≡ true → is_index l ≡ true
    → IsRead (list_at p (Act k) (decimal (position_of p l))) (decimal (position_of p l)) l
list_read p sound k reads l own index =
    let at = found_where p.lists l (λ (c : CoherentList). (c.runnable == k.runnable) && cond reads c.reads (not c.reads)) own in
    by_list at.item at.found (eqb-true at.item.runnable k.runnable (and_parts (at.item.runnable == k.runnable) (cond reads at.item.reads (not at.item.reads)) at.holds).0)
  where
    by_place : (c : CoherentList) → c.runnable ≡ k.runnable → Listed p l c → IsRead (list_at p (Act k) (decimal (position_of p l))) (decimal (position_of p l)) l
    by_place c same x =
        let place : position_of p l ≡ x.place = list_position p sound c.runnable x.place l x.runnable x.there x.among in
        let number : l ≡ lists_before p.runnables c.runnable + x.place = list_number p sound c.runnable x.place l x.runnable x.there x.among in
        let less : l < 4294967296 = ltb-true l 4294967296 index in
        let small : is_index (position_of p l) ≡ true = lt-ltb (position_of p l) 4294967296 (omega (arith, place, number, less)) in
        record {
          found = ap (option_and_then (λ n. list_in p k.runnable n)) (number_back (position_of p l) small)
              ∙ ap (list_in p k.runnable) place
              ∙ ap (λ r. list_in p r x.place) (sym same)
              ∙ ap (λ (o : Option Runnable). option_map_or (λ (v : Runnable). slice_get v.lists x.place) o None) x.there
              ∙ x.among;
        }

    by_list : (c : CoherentList) → slice_get p.lists l ≡ Some c → c.runnable ≡ k.runnable → IsRead (list_at p (Act k) (decimal (position_of p l))) (decimal (position_of p l)) l
    by_list c at same = by_place c same (listed p sound l c at)

-- ---- its marks

even_back : (w m : ℕ) → (w % 2 ≡ 1 → ⊥) → m ≡ w / 2 → 0 + 2 * m ≡ w
even_back w m even half = omega (arith, even, half)

halved_below : (w half whole : ℕ) → whole ≡ 2 * half → w < whole → w / 2 < half
halved_below w half whole double less = omega (arith, double, less)

marks_back : (xs : List ℕ) (w : ℕ) → w < 2 ^ length xs → marks_in (mask_text w xs) ≡ w
marks_back [] w less = omega arith
marks_back (x ∷ xs) w less = by_mark (w % 2 == 1) refl (marks_back xs (w / 2) (halved_below w (2 ^ length xs) (2 ^ suc (length xs)) (pow-succ' 2 (length xs)) less))
  where
    by_mark : (b : Bool) → (w % 2 == 1) ≡ b → marks_in (mask_text (w / 2) xs) ≡ w / 2 → marks_in (cond b (codes "1") (codes "0") ++ mask_text (w / 2) xs) ≡ w
    by_mark true is rest = let odd : w % 2 ≡ 1 = eqb-true (w % 2) 1 is in omega (arith, odd, rest)
    by_mark false is rest = let even : w % 2 ≡ 1 → ⊥ = eqb-false (w % 2) 1 is in even_back w (marks_in (mask_text (w / 2) xs)) even rest

pub marks_read : (p : Plan) → lists_sound p ≡ true → (l written : ℕ) → marks_fit written (elems_of p l) ≡ true → marks_at (mask_text written (elems_of p l)) ≡ Some written
marks_read p sound l written fit =
    let few : length (mask_text written (elems_of p l)) ≤ 16 = omega (arith, mask_length written (elems_of p l), elems_few p sound l) in
    ap (λ b. cond b (Some (marks_in (mask_text written (elems_of p l)))) None) (le-leb (length (mask_text written (elems_of p l))) 16 few)
    ∙ ap (λ w. Some w) (marks_back (elems_of p l) written (ltb-true written (2 ^ length (elems_of p l)) fit))
