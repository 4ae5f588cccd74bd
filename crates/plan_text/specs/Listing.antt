-- Which calls a component's header lists, and when two of them clash.
use Rattle.std.specs.Prelude.{Bool, List, [], ◌∷◌, ◌++◌, filter, not, bytes_eq, if◌then◌else◌, Option, Some, None}
use Rattle.std.specs.List.{flat_map, list_any}
use Rattle.plan_definitions.specs.Common.{TypeTable, Component, Runnable}
use Rattle.plan_text.specs.Targets.{Letters, Target, name_of, same_target, targets_of}

-- each at its first place alone
abbrev pub each_once : List Target → List Target
each_once [] = []
each_once (t ∷ ts) = t ∷ filter (λ u. not (same_target t u)) (each_once ts)

-- what all accesses give, in declared order
abbrev pub given_by : TypeTable → Component → Runnable → List Target
given_by types c r = flat_map (targets_of types c r) r.accesses

abbrev pub given : TypeTable → Component → List Target
given types c = flat_map (given_by types c) c.behavior.runnables

-- what the header lists
abbrev pub listed : TypeTable → Component → List Target
listed types c = each_once (given types c)

abbrev pub has_name : List Target → Letters → Bool
has_name ts name = list_any (λ t. bytes_eq name (name_of t)) ts

-- the first of these names that another one before it has
abbrev pub first_clash : (before : List Target) → List Target → Option Letters
first_clash before [] = None
first_clash before (t ∷ ts) = if has_name before (name_of t) then Some (name_of t) else first_clash (before ++ t ∷ []) ts
