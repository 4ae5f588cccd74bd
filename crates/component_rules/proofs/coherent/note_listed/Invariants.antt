use Rattle.std.proofs.Common.{◌≡◌, ◌++◌, map, take}
use Rattle.plan_definitions.specs.Coherent.{item_of}
use Rattle.component_rules.proofs.coherent.note_listed.Given as goal

abbrev pub invariant-loop-pair : goal.invariant-loop-pair
invariant-loop-pair l = l.found.items ≡ l.initial.found.items ++ map item_of (take l.pair-index l.pairs)
