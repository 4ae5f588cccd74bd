use Rattle.std.proofs.Common.{◌≡◌, map, take}
use Rattle.latches.specs.Latches.{set_in}
use Rattle.latches.proofs.making.all_set.Given as goal

abbrev pub invariant-loop-group : goal.invariant-loop-group
invariant-loop-group l = l.flags.items ≡ map set_in (take l.group-index l.groups)
