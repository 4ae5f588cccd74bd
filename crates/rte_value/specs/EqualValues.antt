-- Values of the same words are the same value, since the unused words are 0.
use Rattle.std.specs.Prelude.{◌≡◌, ◌+◌, ◌-◌, ◌≤◌, max, ℤ, pos, List, [], ◌∷◌, ◌&&◌, take, length, replicate}
use Rattle.std.specs.Bool.{Decides}
use Rattle.std.specs.Cmp.{IsEquivalence, IsPartialEquivalence, decided, partial_equiv_from_equiv}
use Rattle.std.specs.Cmp.Lexicographic.{pointwise}
use Rattle.std.specs.Cmp.Rules.{signed_items}
use Rattle.std.specs.Ordering.{int_eq, on}
use Rattle.std.proofs.Common.{refl, sym, ◌∙◌, ap, subst, length-append, add_comm}
use Rattle.std.proofs.Math.Bridge.{le_prop}
use Rattle.std.proofs.Math.IntN.{ℤ_set}
use Rattle.std.proofs.Math.Nat.{le_trans, le-max_left, sub-add-eq-max}
use Rattle.std.proofs.lemmas.List.{length-replicate, length-take-le}
use mathlib.Core.HLevel.{is_prop→PathP}
use mathlib.Core.List.{is_set}
use Rattle.rte_value.specs.declared.value.Value.{Value}
use Rattle.rte_value.specs.Padding.{padded}
use Rattle.rte_value.specs.Values.{words_of, same_words}

-- a filled list has at least 16 words
le-length_padded : (ws : List ℤ) → 16 ≤ length (padded ws)
le-length_padded ws =
    let counted : length (padded ws) ≡ max 16 (length ws) =
    length-append ws (replicate (16 - length ws) (pos 0))
    ∙ ap (λ n. length ws + n) (length-replicate (16 - length ws) (pos 0))
    ∙ add_comm (length ws) (16 - length ws)
    ∙ sub-add-eq-max 16 (length ws)
    in subst (λ n. 16 ≤ n) (sym counted) (le-max_left 16 (length ws))

-- a value has as many words as its length says
pub length-words_of : (v : Value) → length (words_of v) ≡ v.len
length-words_of v =
    length-take-le v.len v.words
    (le_trans v.short (subst (λ ws. 16 ≤ length ws) (sym v.padded) (le-length_padded (words_of v))))

-- values of the same words are the same value
pub Value-by_words : (v w : Value) → words_of v ≡ words_of w → v ≡ w
Value-by_words v w same =
    let words : v.words ≡ w.words = v.padded ∙ ap padded same ∙ sym w.padded in
    let len : v.len ≡ w.len = sym (length-words_of v) ∙ ap length same ∙ length-words_of w in
    λ i. record {
      words = words i;
      len = len i;
      short = is_prop→PathP (λ j. len j ≤ 16) (λ j. le_prop) v.short w.short i;
      padded = is_prop→PathP (λ j. words j ≡ padded (take (len j) (words j)))
          (λ j. is_set ℤ_set (words j) (padded (take (len j) (words j)))) v.padded w.padded i;
    }

-- it is what `==` computes of two slices
pub pointwise-same_words : (xs ys : List ℤ) → pointwise int_eq xs ys ≡ same_words xs ys
pointwise-same_words [] [] = refl
pointwise-same_words [] (y ∷ ys) = refl
pointwise-same_words (x ∷ xs) [] = refl
pointwise-same_words (x ∷ xs) (y ∷ ys) = ap (λ b. int_eq x y && b) (pointwise-same_words xs ys)

-- what the comparison of two lists of words tells
pub same_words-Decides : (xs ys : List ℤ) → Decides (same_words xs ys) (xs ≡ ys)
same_words-Decides xs ys = subst (λ b. Decides b (xs ≡ ys)) (pointwise-same_words xs ys) (signed_items xs ys)

-- what the comparison of two values tells
pub same_value-Decides : (v w : Value) → Decides (same_words (words_of v) (words_of w)) (v ≡ w)
same_value-Decides v w =
    let words = same_words-Decides (words_of v) (words_of w) in
    (λ same. Value-by_words v w (words.0 same), λ same. words.1 (ap words_of same))

-- the laws of `==`
pub same_value_equiv : IsEquivalence (on words_of same_words)
same_value_equiv = decided (on words_of same_words) same_value-Decides

pub same_value_per : IsPartialEquivalence (on words_of same_words)
same_value_per = partial_equiv_from_equiv same_value_equiv
