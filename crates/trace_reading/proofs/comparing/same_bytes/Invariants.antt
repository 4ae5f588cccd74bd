use Rattle.std.proofs.Common.{◌≡◌, length, bytes_eq}
use Rattle.trace_reading.proofs.comparing.same_bytes.Given as goal

abbrev pub invariant-loop-x : goal.invariant-loop-x
invariant-loop-x l = bytes_eq l.left l.right ≡ bytes_eq l.fn.a l.fn.b

abbrev pub decreases-loop-x : goal.decreases-loop-x
decreases-loop-x l = length l.left
