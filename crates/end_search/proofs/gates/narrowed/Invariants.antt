use Rattle.std.proofs.Common.{◌≡◌}
use Rattle.end_search.specs.Gates.{gate_ends, IsShallow}
use Rattle.end_search.proofs.gates.narrowed.Given as goal

abbrev pub invariant-loop : goal.invariant-loop
invariant-loop l = record {
  shallow : IsShallow l.last;
  ends : gate_ends l.tree.d.now l.last ≡ gate_ends l.tree.d.now l.fn.gate;
}
