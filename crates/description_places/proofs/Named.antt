-- A text is looked for among those of an array.
use Rattle.std.proofs.Common.{◌≡◌, ℕ, suc, ◌+◌, List, [], ◌∷◌, map, length, Bool, true, false, ◌||◌, ltb, bytes_eq, cond, refl, sym, ◌∙◌, arith}
use Rattle.std.proofs.lemmas.Bool.{false_from_ne_true, lt-ltb, ltb-true, true≢false}
use Rattle.std.specs.List.{list_any}
use Rattle.serde_json.specs.View.{view}
use Rattle.serde_json.specs.declared.value.Value.{Value}
use Rattle.declared_names.specs.Names.{has_name, position_in, texts}
use Rattle.declared_names.specs.Values.{text_in}

one_later : (m n : ℕ) → ltb m n ≡ ltb (1 + m) (suc n)
one_later m n = by (ltb m n) refl
  where
    by : (b : Bool) → ltb m n ≡ b → b ≡ ltb (1 + m) (suc n)
    by true e = sym (lt-ltb (1 + m) (suc n) (omega (arith, ltb-true m n e)))
    by false e = sym (false_from_ne_true (ltb (1 + m) (suc n)) (λ t. true≢false (sym (lt-ltb m n (omega (arith, ltb-true (1 + m) (suc n) t))) ∙ e)))

-- a text is one of those of an array
pub text_named : (vs : List Value) (name : List ℕ) → list_any (λ v. bytes_eq (text_in (view v)) name) vs ≡ has_name (texts (map view vs)) name
text_named [] name = refl
text_named (v ∷ vs) name = by (bytes_eq (text_in (view v)) name) (text_named vs name)
  where
    by : (b : Bool) → list_any (λ v. bytes_eq (text_in (view v)) name) vs ≡ has_name (texts (map view vs)) name
        → (b || list_any (λ v. bytes_eq (text_in (view v)) name) vs) ≡ ltb (cond b 0 (1 + position_in (texts (map view vs)) name)) (suc (length (texts (map view vs))))
    by true h = sym (lt-ltb 0 (suc (length (texts (map view vs)))) (omega arith))
    by false h = h ∙ one_later (position_in (texts (map view vs)) name) (length (texts (map view vs)))
