use Rattle.std.proofs.Common.{◌≡◌, map, take}
use Rattle.mapping_rules.specs.Listed.{provided_for}
use Rattle.mapping_rules.proofs.joined.providers_of.Given as goal

abbrev pub invariant-loop-join : goal.invariant-loop-join
invariant-loop-join l = l.list.items ≡ map provided_for (take l.join-index l.joins)
