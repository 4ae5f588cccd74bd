use Rattle.std.proofs.Common.{◌≡◌, ◌++◌, drop}
use Rattle.plan_definitions.specs.Common.{from, callings_in}
use Rattle.plan_services.proofs.callings.push_runnables.Given as goal

abbrev pub invariant-loop-number : goal.invariant-loop-number
invariant-loop-number l = l.initial.list.items ++ from 0 (callings_in l.instance) l.runnables
    ≡ l.list.items ++ from l.number (callings_in l.instance) (drop l.number l.runnables)
