-- What is kept of pairs of interfaces.
use Rattle.std.proofs.Common.{◌≡◌, ℕ, Bool, true, false, cond, nat_eq, Some, Vec, refl, sym, ap, subst, ◌∙◌}
use Rattle.std.proofs.lemmas.Bool.{eqb-true, and_parts}
use Rattle.std.specs.Global.{Global}
use Rattle.std.specs.HashMap.{HashMap, Updates, get}
use Rattle.description_types.specs.declared.description.Description.{Description}
use Rattle.end_crossing.specs.Crossings.{same_pair}
use Rattle.end_search.specs.Matching.{AreMatches}
use Rattle.composition_tables.specs.Multi.{under}

pub kept_more : {S : Type 0} (d : Description) (old new : HashMap (ℕ × ℕ) (Vec (ℕ × ℕ) Global) S) (pair : ℕ × ℕ) (items : Vec (ℕ × ℕ) Global)
    → ((k : ℕ × ℕ) (pairs : Vec (ℕ × ℕ) Global) → get same_pair old k ≡ Some pairs → AreMatches d k.0 k.1 pairs.items)
    → Updates same_pair old new pair (Some items) → AreMatches d pair.0 pair.1 items.items
    → (k : ℕ × ℕ) (pairs : Vec (ℕ × ℕ) Global) → get same_pair new k ≡ Some pairs → AreMatches d k.0 k.1 pairs.items
kept_more d old new pair items kept put found k pairs is = by (same_pair pair k) refl
  where
    by : (b : Bool) → same_pair pair k ≡ b → AreMatches d k.0 k.1 pairs.items
    by true h =
        let now : Some pairs ≡ Some items = sym is ∙ put.0 k ∙ ap (λ b. cond b (Some items) (get same_pair old k)) h in
        let parts = and_parts (nat_eq pair.0 k.0) (nat_eq pair.1 k.1) h in
        subst (λ n. AreMatches d n k.1 pairs.items) (eqb-true pair.0 k.0 parts.0) (subst (λ n. AreMatches d pair.0 n pairs.items) (eqb-true pair.1 k.1 parts.1)
        (subst (AreMatches d pair.0 pair.1) (ap under (sym now)) found))
    by false h = kept k pairs (sym (put.0 k ∙ ap (λ b. cond b (Some items) (get same_pair old k)) h) ∙ is)
