use Rattle.core_runtime.specs.Watching.{Adds, tables_of}
use Rattle.core_runtime.proofs.Seated.{OfCoresBelow}
use Rattle.core_runtime.proofs.seats.seats_of.Given as goal

abbrev pub invariant-loop-number : goal.invariant-loop-number
invariant-loop-number l = Adds (OfCoresBelow (tables_of l.cores) l.number) l.initial.seats.items l.seats.items
