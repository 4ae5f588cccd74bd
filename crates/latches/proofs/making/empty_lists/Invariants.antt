use Rattle.std.proofs.Common.{◌≡◌, length}
use Rattle.latches.specs.Noted.{AreReserved}
use Rattle.latches.proofs.making.empty_lists.Given as goal

abbrev pub invariant-loop-size : goal.invariant-loop-size
invariant-loop-size l = record { long : length l.lists.items ≡ l.size-index; reserved : AreReserved l.fn.groups l.lists.items }
