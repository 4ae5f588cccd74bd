-- The operation that a runnable serves.
use Rattle.std.specs.Prelude.{ℕ, ◌+◌, List, [], ◌∷◌, if◌then◌else◌, Option, Some, None, slice_get}
use Rattle.bus_semantics.specs.declared.plan.ArgPlan.{ArgPlan}
use Rattle.bus_semantics.specs.declared.plan.ServerPlan.{ServerPlan}

-- the server of this number
abbrev pub served : List ServerPlan → Option ℕ → Option ServerPlan
served servers None = None
served servers (Some n) = slice_get servers n

-- its arguments, which are the first variables
abbrev pub arguments_in : Option ServerPlan → List ArgPlan
arguments_in None = []
arguments_in (Some v) = v.arguments

-- the variables of the `in` arguments, of which the first argument is that of this number
abbrev pub in_places : (first : ℕ) → List ArgPlan → List ℕ
in_places n [] = []
in_places n (a ∷ more) = if a.out then in_places (n + 1) more else n ∷ in_places (n + 1) more
