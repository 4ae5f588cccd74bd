use Rattle.std.proofs.Common.{◌≡◌, length}
use Rattle.runnable_lang.proofs.table.hints_of.Given as goal

abbrev pub invariant-loop-position : goal.invariant-loop-position
invariant-loop-position l = length l.hints.items ≡ l.position
