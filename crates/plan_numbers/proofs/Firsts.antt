-- One more entry of those whose first values are kept.
use Rattle.std.proofs.Common.{◌≡◌, ◌≤◌, ℕ, List, ◌∷◌, drop, length, Bool, true, false, cond, Option, Some, None, refl, sym, ap, ◌∙◌}
use Rattle.std.proofs.lemmas.List.{drop_all}
use Rattle.std.specs.Cmp.{IsEquivalence}
use Rattle.std.specs.HashMap.{HashMap, Updates, get, get_by}
use Rattle.std.specs.Map.{lookup}
use Rattle.std.specs.Option.{option_or}

or_first : {X : Type 0} (kept : Option X) (value : X) (rest : Option X) → option_or kept (Some value) ≡ option_or (option_or kept (Some value)) rest
or_first None value rest = refl
or_first (Some x) value rest = refl

module _ {K X S : Type 0} (eq : K → K → Bool) (laws : IsEquivalence eq) (old new : HashMap K X S) (key : K) (value : X) (put : Updates eq old new key (option_or (get eq old key) (Some value))) where
  now_of : (q : K) (b : Bool) → eq key q ≡ b → get eq new q ≡ cond b (option_or (get eq old key) (Some value)) (get eq old q)
  now_of q b h = put.0 q ∙ ap (λ c. cond c (option_or (get eq old key) (Some value)) (get eq old q)) h

  head_of : (q : K) (rest : List (K × X)) (b : Bool) → eq key q ≡ b → lookup (eq q) ((key, value) ∷ rest) ≡ cond b (Some value) (lookup (eq q) rest)
  head_of q rest b h = ap (λ c. cond c (Some value) (lookup (eq q) rest)) (laws.symm q key ∙ h)

  same_key : (q : K) → eq key q ≡ true → get eq old q ≡ get eq old key
  same_key q h = (λ j. get_by (λ y. sym (laws.congr key q y h) j) old)

  pub one_first : (q : K) (whole : Option X) (rest : List (K × X)) → whole ≡ option_or (get eq old q) (lookup (eq q) ((key, value) ∷ rest)) → whole ≡ option_or (get eq new q) (lookup (eq q) rest)
  one_first q whole rest was = by (eq key q) refl
    where
      by : (b : Bool) → eq key q ≡ b → whole ≡ option_or (get eq new q) (lookup (eq q) rest)
      by true h = was ∙ ap (option_or (get eq old q)) (head_of q rest true h) ∙ ap (λ o. option_or o (Some value)) (same_key q h)
          ∙ or_first (get eq old key) value (lookup (eq q) rest) ∙ ap (λ o. option_or o (lookup (eq q) rest)) (sym (now_of q true h))
      by false h = was ∙ ap (option_or (get eq old q)) (head_of q rest false h) ∙ ap (λ o. option_or o (lookup (eq q) rest)) (sym (now_of q false h))

or_none : {X : Type 0} (kept : Option X) → option_or kept None ≡ kept
or_none None = refl
or_none (Some x) = refl

-- none is left
pub all_first : {K X : Type 0} (eq : K → K → Bool) (q : K) (entries : List (K × X)) (count : ℕ) (found : Option X) → length entries ≤ count → lookup (eq q) entries ≡ option_or found (lookup (eq q) (drop count entries))
    → found ≡ lookup (eq q) entries
all_first eq q entries count found past was = sym (was ∙ ap (λ l. option_or found (lookup (eq q) l)) (drop_all count entries past) ∙ or_none found)
