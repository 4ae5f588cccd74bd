use Rattle.std.proofs.Common.{◌≡◌, length}
use Rattle.trace_check.specs.Orders.{left_of}
use Rattle.trace_check.proofs.orders.begun.Given as goal

abbrev pub invariant-lines : goal.invariant-lines
invariant-lines l = left_of l.count l.more ≡ left_of l.fn.ticks l.fn.lines

abbrev pub decreases-lines : goal.decreases-lines
decreases-lines l = length l.more
