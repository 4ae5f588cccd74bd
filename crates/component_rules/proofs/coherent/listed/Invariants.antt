use Rattle.std.proofs.Common.{◌≡◌, map, take}
use Rattle.std.specs.List.{flat_map}
use Rattle.plan_definitions.specs.Coherent.{item_of}
use Rattle.component_rules.proofs.coherent.listed.Given as goal

abbrev pub invariant-loop-pairs : goal.invariant-loop-pairs
invariant-loop-pairs l = l.found.items ≡ flat_map (λ pairs. map item_of pairs) (take l.pairs-index l.lists)
