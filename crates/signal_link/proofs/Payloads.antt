-- A frame whose header came: how it goes on, and when it cannot.
use Rattle.std.proofs.Common.{◌≡◌, ◌≢◌, ◌<◌, ℕ, ◌+◌, ◌*◌, ◌^◌, ℤ, List, [], ◌∷◌, ◌++◌, length, take, drop, get_or, true, false, ◌==◌, refl, sym, ap, ◌∙◌, arith, subst, append_assoc, length-append}
use Rattle.std.proofs.lemmas.Bool.{and_from, and_parts, eq-eqb}
use Rattle.std.proofs.lemmas.Grind.{flat_map-append}
use Rattle.std.proofs.lemmas.List.{append-nil, take-append-le, take_at}
use Rattle.std.proofs.lemmas.List.Folds.{list_all-append}
use Rattle.std.proofs.lemmas.Int.{of_z-to_z}
use Rattle.std.specs.Int.{w64, cast_signed}
use Rattle.std.specs.Int.RustNames.{int_le}
use Rattle.std.specs.List.{flat_map, list_all}
use Rattle.byteorder.specs.Endian.{big_bytes}
use Rattle.byteorder.specs.Numbers.{length-bytes_high_first}
use Rattle.rte_value.specs.declared.kinds.Limits.{Limits}
use Rattle.rte_value.specs.declared.value.Value.{Value}
use Rattle.rte_value.specs.Values.{words_of}
use Rattle.signal_link.specs.Common.{LinkElem, Payload, WordHead, frame, header, word_bytes, is_link, is_within, IsHead, IsLinked, IsOpen, IsPushed, head_bytes, payload_bytes, IsBeginning}
use Rattle.signal_link.specs.Common.{IsGood}
use Rattle.signal_link.specs.Parts.{IsPayload, IsValueOf, empty_head}
use Rattle.signal_link.proofs.Bytes.{bytes_pushed, length-word_bytes}
use Rattle.signal_link.proofs.Frames.{Peeled, peeled, same_link, same_number}
use Rattle.signal_link.proofs.Heads.{le_self}

-- ---- the head

-- one byte more of the head
pub head_pushed : (h g : WordHead) (b : ℕ) → b < 256 → g.count ≡ h.count + 1 → g.number ≡ h.number * 256 + b → head_bytes g ≡ head_bytes h ++ b ∷ []
head_pushed h g b small count number =
    ap (λ (n : ℕ). big_bytes n g.number) count ∙ ap (λ (x : ℕ). big_bytes (h.count + 1) x) number ∙ bytes_pushed h.count h.number b small

-- the bytes of a word that came whole
whole_word : (g : WordHead) → g.count ≡ 8 → IsHead g → word_bytes (cast_signed w64 g.number) ≡ head_bytes g
unfolding word_bytes
whole_word g count is =
    let fits : g.number < 2 ^ 64 = subst (λ (n : ℕ). g.number < 256 ^ n) count is.small in
    ap (λ (x : ℕ). big_bytes 8 x) (of_z-to_z w64 g.number fits) ∙ ap (λ (n : ℕ). big_bytes n g.number) (sym count)

-- any word within the limits begins with no byte
pub open_empty : (l : Limits) → int_le l.low l.high ≡ true → IsOpen l empty_head
open_empty l order = record { word = l.low; within = and_from (int_le l.low l.low) (int_le l.low l.high) (le_self l.low) order; is = refl }

pub is_empty_head : IsHead empty_head
is_empty_head = record { few = omega arith; small = omega arith }

pub ordered_limits : (l : LinkElem) → is_link l ≡ true → int_le l.limits.low l.limits.high ≡ true
ordered_limits l is = (and_parts _ _ (and_parts _ _ is).1).1

-- ---- how it goes on

module _ (p q : Payload) (g : WordHead) (b : ℕ) (is : IsPayload p) (small : b < 256) (room : length p.words.items < p.link.words)
    (head : IsHead g) (count : g.count ≡ p.head.count + 1) (number : g.number ≡ p.head.number * 256 + b)
    (same_number : q.number ≡ p.number) (same_elem : q.link ≡ p.link) where
  -- the same header
  fronts : (ws : List ℤ) → header q.number q.link.words ++ flat_map word_bytes ws ≡ header p.number p.link.words ++ flat_map word_bytes ws
  fronts ws =
      ap (λ (k : ℕ). header k q.link.words ++ flat_map word_bytes ws) same_number
      ∙ ap (λ (l : LinkElem). header p.number l.words ++ flat_map word_bytes ws) same_elem

  -- the byte goes to the head
  pub grown : q.words.items ≡ p.words.items → q.head ≡ g → g.count ≢ 8 → IsOpen p.link.limits g → IsPushed p b q true
  grown words heads not_whole may_end =
      let few = head.few in
      let payload : IsPayload (record q { number = p.number; link = p.link; head = g }) =
      record {
        linked = is.linked;
        within = subst (λ (ws : List ℤ). list_all (is_within p.link.limits) ws ≡ true) (sym words) is.within;
        few = (let w = ap (λ (ws : List ℤ). length ws) words in omega arith);
        head = head;
        unfinished = omega arith;
        may_end = may_end;
        all = λ e. absurd (let w = ap (λ (ws : List ℤ). length ws) words in omega arith);
      } in
      let bytes : payload_bytes q ≡ payload_bytes p ++ b ∷ [] =
      ap (λ (f : List ℕ). f ++ head_bytes q.head) (fronts q.words.items)
      ∙ ap (λ (ws : List ℤ). (header p.number p.link.words ++ flat_map word_bytes ws) ++ head_bytes q.head) words
      ∙ ap (λ (h : WordHead). (header p.number p.link.words ++ flat_map word_bytes p.words.items) ++ head_bytes h) heads
      ∙ ap (λ (bs : List ℕ). (header p.number p.link.words ++ flat_map word_bytes p.words.items) ++ bs) (head_pushed p.head g b small count number)
      ∙ sym (append_assoc (header p.number p.link.words ++ flat_map word_bytes p.words.items) (head_bytes p.head) (b ∷ [])) in (
        subst (λ (h : WordHead). IsPayload (record q { head = h })) (sym heads)
            (subst (λ (l : LinkElem). IsPayload (record q { link = l; head = g })) (sym same_elem)
            (subst (λ (k : ℕ). IsPayload (record q { number = k; link = p.link; head = g })) (sym same_number) payload)),
        bytes,
        same_number,
        same_elem,
      )

  -- the byte ends a word
  pub ended : q.words.items ≡ p.words.items ++ cast_signed w64 g.number ∷ [] → q.head ≡ empty_head → g.count ≡ 8
      → is_within p.link.limits (cast_signed w64 g.number) ≡ true → IsPushed p b q true
  ended words heads whole within =
      let w = cast_signed w64 g.number in
      let more = length-append p.words.items (w ∷ []) in
      let long = ap (λ (ws : List ℤ). length ws) words in
      let payload : IsPayload (record q { number = p.number; link = p.link; head = empty_head }) =
      record {
        linked = is.linked;
        within = subst (λ (ws : List ℤ). list_all (is_within p.link.limits) ws ≡ true) (sym words)
            (list_all-append (is_within p.link.limits) p.words.items (w ∷ [])
            ∙ and_from _ _ is.within (and_from _ _ within refl));
        few = omega (arith, more, long);
        head = is_empty_head;
        unfinished = omega arith;
        may_end = open_empty p.link.limits (ordered_limits p.link is.linked);
        all = λ e. refl;
      } in
      let front = header p.number p.link.words in
      let flat = flat_map word_bytes p.words.items in
      let bytes : payload_bytes q ≡ payload_bytes p ++ b ∷ [] =
      ap (λ (f : List ℕ). f ++ head_bytes q.head) (fronts q.words.items)
      ∙ ap (λ (h : WordHead). (header p.number p.link.words ++ flat_map word_bytes q.words.items) ++ head_bytes h) heads
      ∙ append-nil (header p.number p.link.words ++ flat_map word_bytes q.words.items)
      ∙ ap (λ (ws : List ℤ). header p.number p.link.words ++ flat_map word_bytes ws) words
      ∙ ap (λ (bs : List ℕ). header p.number p.link.words ++ bs) (flat_map-append word_bytes p.words.items (w ∷ []))
      ∙ ap (λ (bs : List ℕ). header p.number p.link.words ++ (flat_map word_bytes p.words.items ++ bs)) (append-nil (word_bytes w) ∙ whole_word g whole head)
      ∙ ap (λ (bs : List ℕ). header p.number p.link.words ++ (flat_map word_bytes p.words.items ++ bs)) (head_pushed p.head g b small count number)
      ∙ sym (append_assoc (header p.number p.link.words) (flat_map word_bytes p.words.items) (head_bytes p.head ++ b ∷ []))
      ∙ sym (append_assoc (header p.number p.link.words ++ flat_map word_bytes p.words.items) (head_bytes p.head) (b ∷ [])) in (
        subst (λ (h : WordHead). IsPayload (record q { head = h })) (sym heads)
            (subst (λ (l : LinkElem). IsPayload (record q { link = l; head = empty_head })) (sym same_elem)
            (subst (λ (k : ℕ). IsPayload (record q { number = k; link = p.link; head = empty_head })) (sym same_number) payload)),
        bytes,
        same_number,
        same_elem,
      )

-- ---- when it cannot

-- where no word within the limits begins so, no good frame does
pub no_good_frame : (links : List LinkElem) (p q : Payload) (b : ℕ) → IsLinked links p → length p.words.items < p.link.words → b < 256
    → IsPushed p b q false → IsBeginning links (payload_bytes p ++ b ∷ []) → ⊥
no_good_frame links p q b linked room small pushed begins =
    let g : WordHead = record { number = p.head.number * 256 + b; count = p.head.count + 1 } in
    let k = begins.link in
    let ws = begins.words in
    let tail_is : flat_map word_bytes ws ≡ ((flat_map word_bytes p.words.items ++ head_bytes p.head) ++ b ∷ []) ++ begins.missing =
    ap (λ (l : List ℕ). drop 4 l) begins.is in
    let next : flat_map word_bytes ws ≡ flat_map word_bytes p.words.items ++ (head_bytes g ++ begins.missing) =
    tail_is
    ∙ ap (λ (l : List ℕ). l ++ begins.missing)
    (append_assoc (flat_map word_bytes p.words.items) (head_bytes p.head) (b ∷ [])
    ∙ ap (λ (l : List ℕ). flat_map word_bytes p.words.items ++ l) (sym (head_pushed p.head g b small refl refl)))
    ∙ append_assoc (flat_map word_bytes p.words.items) (head_bytes g) begins.missing in
    let number : k ≡ p.number = same_number k p.number begins.good.numbered linked.numbered
    (ap (λ (l : List ℕ). get_or l 1 0) begins.is) (ap (λ (l : List ℕ). get_or l 2 0) begins.is) in
    let elem : begins.good.link ≡ p.link = same_link links k p.number begins.good.link p.link number begins.good.linked linked.linked in
    let within : list_all (is_within p.link.limits) ws ≡ true =
    subst (λ (l : LinkElem). list_all (is_within l.limits) ws ≡ true) elem (and_parts (length ws == begins.good.link.words) (list_all (is_within begins.good.link.limits) ws) begins.good.taken).1 in
    let long = length-bytes_high_first g.count g.number in
    let both = length-append (head_bytes g) begins.missing in
    let next_word : Peeled p.link.limits (head_bytes g ++ begins.missing) =
    peeled p.link.limits p.words.items ws (head_bytes g ++ begins.missing) within next (omega (arith, long, both)) in
    let unfinished = linked.payload.unfinished in
    let bytes : take g.count (word_bytes next_word.word) ≡ head_bytes g =
    sym (take-append-le g.count (word_bytes next_word.word) next_word.after (let w = length-word_bytes next_word.word in omega (arith, w)))
    ∙ ap (λ (l : List ℕ). take g.count l) (sym next_word.is)
    ∙ take_at (head_bytes g) begins.missing g.count long in
    pushed g refl refl (record { word = next_word.word; within = next_word.within; is = bytes })

-- ---- a whole frame

-- the value of a frame all of whose words came
pub whole_frame : (links : List LinkElem) (p : Payload) (v : Value) → IsLinked links p → IsValueOf p v
    → IsGood links p.number (words_of v) × (payload_bytes p ≡ frame p.number (words_of v))
whole_frame links p v linked is =
    let long : length (words_of v) ≡ p.link.words = ap (λ (ws : List ℤ). length ws) is.words ∙ is.all in
    let good : IsGood links p.number (words_of v) =
    record {
      link = p.link;
      linked = linked.linked;
      numbered = linked.numbered;
      taken = and_from _ _ (eq-eqb (length (words_of v)) p.link.words long)
          (subst (λ (ws : List ℤ). list_all (is_within p.link.limits) ws ≡ true) (sym is.words) linked.payload.within);
    } in
    let empty : p.head.count ≡ 0 = linked.payload.all is.all in
    let bytes : payload_bytes p ≡ frame p.number (words_of v) =
    ap (λ (n : ℕ). (header p.number p.link.words ++ flat_map word_bytes p.words.items) ++ big_bytes n p.head.number) empty
    ∙ append-nil (header p.number p.link.words ++ flat_map word_bytes p.words.items)
    ∙ ap (λ (n : ℕ). header p.number n ++ flat_map word_bytes p.words.items) (sym long)
    ∙ ap (λ (ws : List ℤ). header p.number (length (words_of v)) ++ flat_map word_bytes ws) (sym is.words) in
    (good, bytes)
