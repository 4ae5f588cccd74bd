use Rattle.std.proofs.Common.{◌≡◌, ◌+◌, ◌≤◌, ◌++◌, length}
use Rattle.bus_semantics.specs.Spelling.{Letters, header}
use Rattle.trace_check.specs.Lines.{Reaches}
use Rattle.trace_check.proofs.trace.check_lines.Given as goal

abbrev pub invariant-lines : goal.invariant-lines
invariant-lines l = record {
  few : l.line + length l.left ≤ length l.fn.text + 2;
  reached : (trace : Letters) → trace ≡ header l.version ++ l.fn.text → Reaches l.version l.rules trace l.check l.left l.line;
}

abbrev pub decreases-lines : goal.decreases-lines
decreases-lines l = length l.left
