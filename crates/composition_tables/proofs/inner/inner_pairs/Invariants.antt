use Rattle.std.proofs.Common.{ℕ, ◌↔◌, take}
use Rattle.std.specs.List.{flat_map}
use Rattle.composition_tables.specs.Ends.{inner_ports}
use Rattle.description_types.specs.Members.{Among}
use Rattle.composition_tables.specs.Inner.{port_of}
use Rattle.composition_tables.proofs.inner.inner_pairs.Given as goal

abbrev pub invariant-loop-port : goal.invariant-loop-port
invariant-loop-port l = (k : ℕ × ℕ) → Among k l.found.keys ↔ Among (port_of k) (flat_map (inner_ports l.tree.d.now l.composition) (take l.port-index l.ports))
