use Rattle.std.proofs.Common.{◌≡◌, ℕ, length, slice_get, Some, Vec}
use Rattle.std.specs.Global.{Global}
use Rattle.description_types.specs.declared.description.InnerPort.{InnerPort}
use Rattle.composition_tables.specs.Ends.{inner_ports}
use Rattle.composition_tables.specs.Trees.{ports_at}
use Rattle.composition_tables.proofs.delegations.delegations.Given as goal

abbrev pub invariant-loop-composition : goal.invariant-loop-composition
invariant-loop-composition l = record {
  as_many : length l.table.items ≡ l.composition;
  each : (c : ℕ) (by_port : Vec (Vec InnerPort Global) Global) → slice_get l.table.items c ≡ Some by_port → (port : ℕ) → ports_at by_port.items port ≡ inner_ports l.d c port;
}
