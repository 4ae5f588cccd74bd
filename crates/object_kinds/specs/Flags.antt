-- Flags by place, and what a test gives.
use Rattle.std.specs.Prelude.{ℕ, List, Bool, true, false, Option, Some, None, slice_get}

-- if a test holds
abbrev pub given : {X : Type 0} → Bool → X → Option X
given true x = Some x
given false x = None

-- the flag at this place is set
abbrev pub is_set : List Bool → ℕ → Bool
is_set flags i = is_true (slice_get flags i)
  where
    is_true : Option Bool → Bool
    is_true None = false
    is_true (Some b) = b

-- there is such a place, and its flag is set
abbrev pub is_pending : (due : List Bool) → (at : Option ℕ) → Bool
is_pending due None = false
is_pending due (Some i) = is_set due i
