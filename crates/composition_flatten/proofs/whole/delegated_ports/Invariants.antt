use Rattle.std.proofs.Common.{◌≡◌, [], nat_eq, drop}
use Rattle.std.specs.List.{flat_map}
use Rattle.indexmap.specs.IndexSet.{insert_all}
use Rattle.composition_flatten.specs.Outers.{outers_of}
use Rattle.composition_flatten.proofs.whole.delegated_ports.Given as goal

abbrev pub invariant-loop-connector : goal.invariant-loop-connector
invariant-loop-connector l = insert_all nat_eq [] (flat_map outers_of l.connectors) ≡ insert_all nat_eq l.ports.keys (flat_map outers_of (drop l.connector-index l.connectors))
