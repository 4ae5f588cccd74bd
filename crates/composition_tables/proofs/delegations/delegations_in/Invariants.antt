use Rattle.std.proofs.Common.{◌≡◌, ◌++◌, ℕ, length, drop}
use Rattle.std.specs.List.{filter_map}
use Rattle.description_types.specs.declared.description.PrototypeType.TheVariants.{Composition}
use Rattle.description_types.specs.Connectors.{ports_of}
use Rattle.composition_tables.specs.Ends.{delegated, inner_ports}
use Rattle.composition_tables.specs.Trees.{ports_at}
use Rattle.composition_tables.proofs.delegations.delegations_in.Given as goal

abbrev pub invariant-loop-connector : goal.invariant-loop-connector
invariant-loop-connector l = record {
  long : length l.by_port.items ≡ length (ports_of l.d (Composition l.composition));
  so_far : (port : ℕ) → inner_ports l.d l.composition port ≡ ports_at l.by_port.items port ++ filter_map (delegated l.d l.composition port) (drop l.connector-index l.connector-items);
}
