-- Inner ports of a composition, by their prototypes.
use Rattle.std.specs.Prelude.{◌↔◌, ℕ, List, nat_eq}
use Rattle.std.specs.List.{flat_map}
use Rattle.description_types.specs.declared.description.Description.{Description}
use Rattle.description_types.specs.declared.description.InnerPort.{InnerPort}
use Rattle.indexmap.specs.IndexMap.{get}
use Rattle.composition_tables.specs.declared.inner.Inner.{Inner}
use Rattle.composition_tables.specs.Ends.{inner_ports}
use Rattle.description_types.specs.Members.{Among}
use Rattle.composition_tables.specs.Multi.{under}

-- the port k.1 of the prototype k.0
abbrev pub port_of : ℕ × ℕ → InnerPort
port_of k = record { prototype = k.0; port = k.1 }

-- these are the inner ports that the composition c delegates its outer ports to
pub record AreInner (d : Description) (c : ℕ) (ports : List ℕ) (inner : Inner) : Type 0 where
  pub listed : (q p : ℕ) → Among p (under (get nat_eq inner.ports q)) → Among q inner.prototypes.keys
  pub are : (q p : ℕ) → Among p (under (get nat_eq inner.ports q)) ↔ Among (port_of (q, p)) (flat_map (inner_ports d c) ports)
