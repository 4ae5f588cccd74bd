use Rattle.core_runtime.proofs.Areas.{UpTo}
use Rattle.core_runtime.proofs.waiting.wake_first_of_each.Given as goal

abbrev pub invariant-loop-number : goal.invariant-loop-number
invariant-loop-number l = UpTo l.object l.number l.initial.awake.items l.awake.items
