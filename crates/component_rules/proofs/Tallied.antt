-- One more key is tallied.
use Rattle.std.proofs.Common.{◌≡◌, ◌∙◌, ℕ, zero, suc, List, ◌∷◌, Bool, true, false, cond, if◌then◌else◌, Option, Some, None, refl, sym, ap}
use Rattle.std.specs.Cmp.{IsEquivalence}
use Rattle.std.specs.HashMap.{HashMap, Updates, get, get_by}
use Rattle.plan_definitions.specs.Counts.{count}
use Rattle.component_rules.specs.Tallies.{noted}
use Rattle.component_rules.proofs.Tallying.{after}

turn : (kept : Option Bool) (n : ℕ) → after kept (suc n) ≡ after (noted kept) n
turn None zero = refl
turn None (suc n) = refl
turn (Some again) zero = refl
turn (Some again) (suc n) = refl

module _ {K S : Type 0} (eq : K → K → Bool) (laws : IsEquivalence eq) (old new : HashMap K Bool S) (key : K) (put : Updates eq old new key (noted (get eq old key))) where
  now_of : (q : K) (b : Bool) → eq key q ≡ b → get eq new q ≡ cond b (noted (get eq old key)) (get eq old q)
  now_of q b h = put.0 q ∙ ap (λ c. cond c (noted (get eq old key)) (get eq old q)) h

  count_of : (q : K) (rest : List K) (b : Bool) → eq key q ≡ b → count (eq q) (key ∷ rest) ≡ (if b then suc (count (eq q) rest) else count (eq q) rest)
  count_of q rest b h = ap (λ (c : Bool). if c then suc (count (eq q) rest) else count (eq q) rest) (laws.symm q key ∙ h)

  same_key : (q : K) → eq key q ≡ true → get eq old q ≡ get eq old key
  same_key q h = (λ j. get_by (λ y. sym (laws.congr key q y h) j) old)

  pub one_tallied : (q : K) (whole : Option Bool) (rest : List K) → whole ≡ after (get eq old q) (count (eq q) (key ∷ rest)) → whole ≡ after (get eq new q) (count (eq q) rest)
  one_tallied q whole rest was = by (eq key q) refl
    where
      by : (b : Bool) → eq key q ≡ b → whole ≡ after (get eq new q) (count (eq q) rest)
      by true h = was ∙ ap (after (get eq old q)) (count_of q rest true h) ∙ turn (get eq old q) (count (eq q) rest) ∙ ap (λ o. after (noted o) (count (eq q) rest)) (same_key q h)
          ∙ ap (λ o. after o (count (eq q) rest)) (sym (now_of q true h))
      by false h = was ∙ ap (after (get eq old q)) (count_of q rest false h) ∙ ap (λ o. after o (count (eq q) rest)) (sym (now_of q false h))

-- none is left
pub none_left : (kept : Option Bool) → after kept zero ≡ kept
none_left None = refl
none_left (Some again) = refl
