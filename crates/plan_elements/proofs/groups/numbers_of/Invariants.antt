use Rattle.std.proofs.Common.{◌≡◌, map, take}
use Rattle.plan_elements.specs.Spreads.{number_at}
use Rattle.plan_elements.proofs.groups.numbers_of.Given as goal

abbrev pub invariant-loop-leader : goal.invariant-loop-leader
invariant-loop-leader l = l.list.items ≡ map (number_at l.ranks) (take l.leader-index l.leaders)
