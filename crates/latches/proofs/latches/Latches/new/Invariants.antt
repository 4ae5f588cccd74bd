use Rattle.std.proofs.Common.{◌≡◌, ◌++◌, map, take, drop}
use Rattle.latches.specs.Latches.{clear_in, set_in}
use Rattle.latches.proofs.latches.Latches.new.Given as goal

abbrev pub invariant-loop-at : goal.invariant-loop-at
invariant-loop-at l = l.latches ≡ map clear_in (take l.at l.groups) ++ map set_in (drop l.at l.groups)
