-- Groups: what joins connect, seen from a required end (SWS_RTE: sender-receiver communication 1:n and n:1; profile: one of the
-- two numbers is 1).
use Rattle.std.specs.Prelude.{◌≡◌, ◌≢◌, ℕ, zero, suc, List, [], ◌∷◌, ◌⊎◌}
use Rattle.description_types.specs.declared.flat.End.{End}
use Rattle.description_types.specs.declared.flat.Join.{Join}

-- one of these joins p with r
abbrev pub IsJoined : List Join → End → End → Type 0
IsJoined [] p r = ⊥
IsJoined (j ∷ joins) p r = ((j.provided ≡ p) × (j.required ≡ r)) ⊎ IsJoined joins p r

-- A chain of n provided ends leads from one required end to another: each is joined with the required end before it and with the
-- one after it.
abbrev pub Leads : List Join → End → End → ℕ → Type 0
Leads joins e r zero = e ≡ r
Leads joins e r (suc n) = (before : End) × (p : End) × Leads joins e before n × IsJoined joins p before × IsJoined joins p r

-- the required and the provided ends in the group of a required end
abbrev pub HasRequired : List Join → End → End → Type 0
HasRequired joins e r = (n : ℕ) × Leads joins e r n

abbrev pub HasProvided : List Join → End → End → Type 0
HasProvided joins e p = (r : End) × HasRequired joins e r × IsJoined joins p r

-- the group has more than one provided and more than one required end
abbrev pub IsManyToMany : List Join → End → Type 0
IsManyToMany joins e = ((p : End) × (q : End) × (p ≢ q) × HasProvided joins e p × HasProvided joins e q)
    × ((r : End) × (s : End) × (r ≢ s) × HasRequired joins e r × HasRequired joins e s)
