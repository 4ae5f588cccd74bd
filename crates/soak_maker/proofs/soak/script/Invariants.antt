use Rattle.std.proofs.Common.{◌≡◌}
use Rattle.soak_maker.specs.Script.{rounds}
use Rattle.soak_maker.proofs.soak.script.Given as goal

-- so many rounds were written
abbrev pub invariant-loop-i : goal.invariant-loop-i
invariant-loop-i l = l.bytes.items ≡ rounds l.i
