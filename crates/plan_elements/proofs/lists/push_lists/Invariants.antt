use Rattle.std.proofs.Common.{◌≡◌, ◌++◌, map, take}
use Rattle.plan_definitions.specs.Listed.{list_of}
use Rattle.plan_elements.proofs.lists.push_lists.Given as goal

abbrev pub invariant-loop-pairs : goal.invariant-loop-pairs
invariant-loop-pairs l = l.list.items ≡ l.initial.list.items ++ map (list_of l.source.d.now l.source.f.now l.number l.instance) (take l.pairs-index l.lists)
