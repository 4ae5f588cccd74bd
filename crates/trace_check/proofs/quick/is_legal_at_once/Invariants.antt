use Rattle.std.proofs.Common.{◌≡◌, ◌++◌, length}
use Rattle.bus_semantics.specs.Spelling.{Letters, header}
use Rattle.trace_check.proofs.AtOnce.{IsAt}
use Rattle.trace_check.proofs.quick.is_legal_at_once.Given as goal

abbrev pub invariant-lines : goal.invariant-lines
invariant-lines l = (trace : Letters) → trace ≡ header l.rules.version ++ l.fn.text → IsAt l.rules trace l.check l.left

abbrev pub decreases-lines : goal.decreases-lines
decreases-lines l = length l.left
