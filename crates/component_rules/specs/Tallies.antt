-- What comes again, by key.
use Rattle.std.specs.Prelude.{◌≡◌, ℕ, zero, suc, List, Bool, true, false, Option, Some, None, is_some}
use Rattle.indexmap.specs.IndexMap.{IndexMap, get}
use Rattle.plan_definitions.specs.Counts.{count}

-- whether what comes so often comes again, if it comes at all
abbrev pub again_in : ℕ → Option Bool
again_in zero = None
again_in (suc zero) = Some false
again_in (suc (suc n)) = Some true

-- the same, after one more
abbrev pub noted : Option Bool → Option Bool
noted again = Some (is_some again)

-- the map has this for each key
abbrev pub AreTallied : {K S : Type 0} → (K → K → Bool) → List K → IndexMap K Bool S → Type 0
AreTallied {K} eq keys map = (q : K) → get eq map q ≡ again_in (count (eq q) keys)
