use Rattle.core_runtime.proofs.Together.{Roused}
use Rattle.core_runtime.proofs.watch.rouse_all.Given as goal

abbrev pub invariant-loop-number : goal.invariant-loop-number
invariant-loop-number l = Roused l.cores l.number l.initial.awake.items l.awake.items
