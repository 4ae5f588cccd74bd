use Rattle.std.proofs.Common.{◌≡◌, length}
use Rattle.core_runtime.proofs.starters.no_starters.Given as goal

abbrev pub invariant-loop : goal.invariant-loop
invariant-loop l = length l.lists.items ≡ l.counter
