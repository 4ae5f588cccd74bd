use Rattle.std.proofs.Common.{◌≡◌, take}
use Rattle.std.specs.List.{flat_map}
use Rattle.mapping_rules.specs.Listed.{outside_at}
use Rattle.mapping_rules.proofs.joined.outside_of.Given as goal

abbrev pub invariant-loop-join : goal.invariant-loop-join
invariant-loop-join l = l.list.items ≡ flat_map outside_at (take l.join-index l.joins)
