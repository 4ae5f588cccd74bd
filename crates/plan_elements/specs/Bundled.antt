-- The labels of groups that lists connect.
use Rattle.std.specs.Prelude.{ℕ, List, map, slice_get, ◌==◌, if◌then◌else◌, Option, Some, None, option_and_then}
use Rattle.bus_semantics.specs.Common.{list_all, least, leaders_by}
use Rattle.bus_semantics.specs.declared.plan.CoherentList.{CoherentList}
use Rattle.plan_definitions.specs.Common.{Elem, groups_listed}

abbrev pub leaders_over : List Elem → List CoherentList → (groups : ℕ) → List ℕ
leaders_over es lists n = leaders_by n (map (groups_listed es) lists)

-- the least of some labels, and none if all are one
abbrev pub lowest : List ℕ → Option ℕ
lowest theirs = option_and_then (λ first. if list_all (λ t. t == first) theirs then None else Some (least first theirs)) (slice_get theirs 0)
