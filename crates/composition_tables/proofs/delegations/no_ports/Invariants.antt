use Rattle.std.proofs.Common.{◌≡◌, ℕ, [], length}
use Rattle.composition_tables.specs.Trees.{ports_at}
use Rattle.composition_tables.proofs.delegations.no_ports.Given as goal

abbrev pub invariant-loop : goal.invariant-loop
invariant-loop l = record {
  long : length l.by_port.items ≡ l.counter;
  empty : (port : ℕ) → ports_at l.by_port.items port ≡ [];
}
