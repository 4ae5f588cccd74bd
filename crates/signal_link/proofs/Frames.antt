-- No good frame begins another, and what a good frame says can be read from its bytes.
use Rattle.std.proofs.Common.{◌≡◌, ◌<◌, ℕ, ◌+◌, ◌*◌, ◌/◌, ◌%◌, ◌^◌, ℤ, List, [], ◌∷◌, ◌++◌, length, take, drop, get_or, true, Option, Some, slice_get, refl, sym, ap, ◌∙◌, arith}
use Rattle.std.proofs.Common.{append_assoc, length-append}
use Rattle.std.proofs.lemmas.Bool.{and_parts}
use Rattle.std.proofs.lemmas.List.{append-nil, drop_at, take_at}
use Rattle.std.proofs.lemmas.Int.{to_z-of_z}
use Rattle.std.specs.Int.{w64, cast_signed, cast_unsigned}
use Rattle.std.specs.Int.RustNames.{FitsSigned, int_le}
use Rattle.std.specs.List.{flat_map, list_all}
use Rattle.std.specs.Option.{unwrap_or}
use Rattle.rte_value.specs.declared.kinds.Limits.{Limits}
use Rattle.signal_link.specs.Common.{LinkElem, frame, word_bytes, is_within}
use Rattle.signal_link.proofs.Bytes.{bytes_are_one, length-word_bytes}
use Rattle.signal_link.proofs.Heads.{fits_between, le_of, unsigned_fits}

-- ---- lengths

pub length-words : (ws : List ℤ) → length (flat_map word_bytes ws) ≡ 8 * length ws
length-words [] = refl
length-words (w ∷ ws) =
    let here = length-word_bytes w in
    let rest = length-words ws in
    let both = length-append (word_bytes w) (flat_map word_bytes ws) in
    omega (arith, here, rest, both)

pub length-frame : (k : ℕ) (ws : List ℤ) → length (frame k ws) ≡ 4 + 8 * length ws
length-frame k ws = let words = length-words ws in omega (arith, words)

-- frames that begin with the same four bytes have the same number of words
same_count : (k j : ℕ) (ws vs : List ℤ) (a b : List ℕ) → frame k ws ++ a ≡ frame j vs ++ b → length ws ≡ length vs
same_count k j ws vs a b same = ap (λ (l : List ℕ). get_or l 3 0) same

-- no frame stands at the beginning of one that is cut
pub no_frame_in_a_cut_one : (k j : ℕ) (ws vs : List ℤ) (after missing : List ℕ) → frame k ws ≡ (frame j vs ++ after) ++ missing → 0 < length missing → ⊥
no_frame_in_a_cut_one k j ws vs after missing is some =
    let split : frame k ws ++ [] ≡ frame j vs ++ (after ++ missing) = append-nil (frame k ws) ∙ is ∙ append_assoc (frame j vs) after missing in
    let count = same_count k j ws vs [] (after ++ missing) split in
    let long : length (frame k ws) ≡ length ((frame j vs ++ after) ++ missing) = ap (λ (l : List ℕ). length l) is in
    let first = length-append (frame j vs ++ after) missing in
    let second = length-append (frame j vs) after in
    let one = length-frame k ws in
    let other = length-frame j vs in
    absurd (omega (arith, count, long, first, second, one, other))

-- ---- links

-- the numbers of two links, in two bytes
pub same_number : (k j : ℕ) → k < 2 ^ 16 → j < 2 ^ 16 → k / 256 % 256 ≡ j / 256 % 256 → k % 256 ≡ j % 256 → k ≡ j
same_number k j hk hj high low = omega arith

pub same_link : (links : List LinkElem) (k j : ℕ) (l m : LinkElem) → k ≡ j → slice_get links k ≡ Some l → slice_get links j ≡ Some m → l ≡ m
same_link links k j l m same here there =
    ap (λ (o : Option LinkElem). unwrap_or o l) (sym here ∙ ap (λ (n : ℕ). slice_get links n) same ∙ there)

-- ---- words

-- behind the same number of words stands what stands there, and a word within the limits comes next
pub record Peeled (limits : Limits) (t : List ℕ) : Type 0 where
  pub word : ℤ
  pub after : List ℕ
  pub within : is_within limits word ≡ true
  pub is : t ≡ word_bytes word ++ after

pub peeled : (l : Limits) (ds ws : List ℤ) (t : List ℕ) → list_all (is_within l) ws ≡ true
    → flat_map word_bytes ws ≡ flat_map word_bytes ds ++ t → 0 < length t → Peeled l t
peeled l [] [] t all same some = absurd (let e : 0 ≡ length t = ap (λ (x : List ℕ). length x) same in omega arith)
peeled l [] (w ∷ ws) t all same some =
    record { word = w; after = flat_map word_bytes ws; within = (and_parts (is_within l w) (list_all (is_within l) ws) all).0; is = sym same }
peeled l (d ∷ ds) [] t all same some =
    let e : 0 ≡ length ((word_bytes d ++ flat_map word_bytes ds) ++ t) = ap (λ (x : List ℕ). length x) same in
    let a = length-append (word_bytes d ++ flat_map word_bytes ds) t in
    absurd (omega (arith, e, a))
peeled l (d ∷ ds) (w ∷ ws) t all same some =
    let cut : drop 8 (word_bytes w ++ flat_map word_bytes ws) ≡ drop 8 (word_bytes d ++ (flat_map word_bytes ds ++ t)) =
    ap (λ (x : List ℕ). drop 8 x) (same ∙ append_assoc (word_bytes d) (flat_map word_bytes ds) t) in
    let tail : flat_map word_bytes ws ≡ flat_map word_bytes ds ++ t =
    sym (drop_at (word_bytes w) (flat_map word_bytes ws) 8 (length-word_bytes w)) ∙ cut
    ∙ drop_at (word_bytes d) (flat_map word_bytes ds ++ t) 8 (length-word_bytes d) in
    peeled l ds ws t (and_parts (is_within l w) (list_all (is_within l) ws) all).1 tail some

same_word : (w v : ℤ) → FitsSigned w64 w → FitsSigned w64 v → word_bytes w ≡ word_bytes v → w ≡ v
unfolding word_bytes
same_word w v fw fv same =
    let number : cast_unsigned w64 w ≡ cast_unsigned w64 v =
    bytes_are_one 8 (cast_unsigned w64 w) (cast_unsigned w64 v) (unsigned_fits w fw) (unsigned_fits v fv) same in
    sym (to_z-of_z w64 w fw) ∙ ap (λ (n : ℕ). cast_signed w64 n) number ∙ to_z-of_z w64 v fv

-- a word within limits of 64 bits is one
word_fits : (l : Limits) (w : ℤ) → FitsSigned w64 l.low → FitsSigned w64 l.high → is_within l w ≡ true → FitsSigned w64 w
word_fits l w low high within =
    let parts = and_parts (int_le l.low w) (int_le w l.high) within in
    fits_between l.low l.high w low high (le_of l.low w parts.0) (le_of w l.high parts.1)

-- lists of as many words with the same bytes are the same
pub same_words : (l : Limits) → FitsSigned w64 l.low → FitsSigned w64 l.high → (ws vs : List ℤ) (a b : List ℕ) → length ws ≡ length vs
    → list_all (is_within l) ws ≡ true → list_all (is_within l) vs ≡ true
    → flat_map word_bytes ws ++ a ≡ flat_map word_bytes vs ++ b → (ws ≡ vs) × (a ≡ b)
same_words l low high [] [] a b long all also same = (refl, same)
same_words l low high [] (v ∷ vs) a b long all also same = absurd (omega arith)
same_words l low high (w ∷ ws) [] a b long all also same = absurd (omega arith)
same_words l low high (w ∷ ws) (v ∷ vs) a b long all also same =
    let first = and_parts (is_within l w) (list_all (is_within l) ws) all in
    let second = and_parts (is_within l v) (list_all (is_within l) vs) also in
    let flat : word_bytes w ++ (flat_map word_bytes ws ++ a) ≡ word_bytes v ++ (flat_map word_bytes vs ++ b) =
    sym (append_assoc (word_bytes w) (flat_map word_bytes ws) a) ∙ same ∙ append_assoc (word_bytes v) (flat_map word_bytes vs) b in
    let head : word_bytes w ≡ word_bytes v =
    sym (take_at (word_bytes w) (flat_map word_bytes ws ++ a) 8 (length-word_bytes w)) ∙ ap (λ (x : List ℕ). take 8 x) flat
    ∙ take_at (word_bytes v) (flat_map word_bytes vs ++ b) 8 (length-word_bytes v) in
    let tail : flat_map word_bytes ws ++ a ≡ flat_map word_bytes vs ++ b =
    sym (drop_at (word_bytes w) (flat_map word_bytes ws ++ a) 8 (length-word_bytes w)) ∙ ap (λ (x : List ℕ). drop 8 x) flat
    ∙ drop_at (word_bytes v) (flat_map word_bytes vs ++ b) 8 (length-word_bytes v) in
    let one : w ≡ v = same_word w v (word_fits l w low high first.0) (word_fits l v low high second.0) head in
    let more = same_words l low high ws vs a b (omega arith) first.1 second.1 tail in
    ((λ i. one i ∷ more.0 i), more.1)
