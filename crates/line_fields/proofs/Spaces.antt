-- Names, numbers, words and values have no space, and words no comma.
use Rattle.std.proofs.Common.{◌≡◌, ℕ, Bool, true, false, not, ◌&&◌, ◌||◌, cond, ◌==◌, List, [], ◌∷◌, bytes_eq, codes, refl, sym, subst}
use Rattle.bus_semantics.specs.Common.{list_all, and_parts, and_from, eqb-true, bytes_eq-Decides, is_letter, is_name, is_name_part}
use Rattle.line_fields.specs.Numbers.{is_digit, is_negated, is_number, is_value, is_word}
use Rattle.line_fields.specs.Texts.{is_pair_name, parts}
use Rattle.line_fields.proofs.Decimals.{negated_is_number, number_digits}
use Rattle.line_fields.proofs.Joining.{all-parts, all_more, apart, lacks}

pub number_lacks : (s : ℕ) → is_digit s ≡ false → (t : List ℕ) → is_number t ≡ true → lacks s t ≡ true
number_lacks s h t k = all_more is_digit (λ c. not (c == s)) (apart is_digit s h) t (number_digits t k).1

pub word_lacks : (s : ℕ) → is_digit s ≡ false → not (45 == s) ≡ true → (t : List ℕ) → is_word t ≡ true → lacks s t ≡ true
word_lacks s h m [] k = absurd (cc)
word_lacks s h m (c ∷ cs) k = step (c == 45) refl k
  where
    step : (b : Bool) → (c == 45) ≡ b → cond b (is_negated cs) (is_number (c ∷ cs)) ≡ true → lacks s (c ∷ cs) ≡ true
    step true is k = and_from (not (c == s)) (lacks s cs) (subst (λ x. not (x == s) ≡ true) (sym (eqb-true c 45 is)) m) (number_lacks s h cs (negated_is_number cs k))
    step false is k = number_lacks s h (c ∷ cs) k

pub value_lacks : (t : List ℕ) → is_value t ≡ true → lacks 32 t ≡ true
value_lacks t h = step (bytes_eq t (codes "-")) refl h
  where
    step : (b : Bool) → bytes_eq t (codes "-") ≡ b → (b || list_all is_word (parts 44 t)) ≡ true → lacks 32 t ≡ true
    step true is h = let none : t ≡ codes "-" = (bytes_eq-Decides t (codes "-")).0 is in subst (λ u. lacks 32 u ≡ true) (sym none) refl
    step false is h = all-parts (λ c. not (c == 32)) 44 refl is_word (word_lacks 32 refl refl) t h

pub name_lacks : (t : List ℕ) → is_name t ≡ true → lacks 32 t ≡ true
name_lacks [] h = absurd (cc)
name_lacks (c ∷ cs) h = let two = and_parts (is_letter c) (list_all is_name_part cs && _) h in
    and_from (not (c == 32)) (lacks 32 cs) (apart is_letter 32 refl c two.0) (all_more is_name_part (λ d. not (d == 32)) (apart is_name_part 32 refl) cs (and_parts (list_all is_name_part cs) _ two.1).0)

pub pair_lacks : (t : List ℕ) → is_pair_name t ≡ true → lacks 32 t ≡ true
pair_lacks t h = all-parts (λ c. not (c == 32)) 46 refl is_name name_lacks t (and_parts _ (list_all is_name (parts 46 t)) h).1
