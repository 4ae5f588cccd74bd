-- What is below gates, as it is found.
use Rattle.std.specs.Prelude.{◌≡◌, ◌<◌, ◌↔◌, ◌⊎◌, ℕ, List, false, length, nat_eq}
use Rattle.description_types.specs.declared.description.Description.{Description}
use Rattle.indexmap.specs.IndexMap.{get}
use Rattle.end_search.specs.declared.gates.Gate.{Gate}
use Rattle.end_search.specs.declared.sides.Side.{Side}
use Rattle.composition_tables.specs.declared.tree.PortEnd.{PortEnd}
use Rattle.end_search.specs.Gates.{gate_ends}
use Rattle.description_types.specs.Members.{Among}
use Rattle.end_search.specs.Sharing.{IsIndexed}
use Rattle.composition_tables.specs.Multi.{under}

-- these are the ends of an interface below a gate
abbrev pub AreOf : Description → Gate → ℕ → List PortEnd → Type 0
AreOf d gate interface list = (x : PortEnd) → Among x list ↔ (Among x (gate_ends d gate) × (x.interface ≡ interface))

-- The side has all interfaces of the ports below the gate, by their keys if they are several, and the ends there: all of them unless
-- their search was cut short, and then still all of the interfaces that are known.
pub record IsSide (d : Description) (gate : Gate) (side : Side) : Type 0 where
  pub covers : (x : PortEnd) → Among x (gate_ends d gate) → Among x.interface side.interfaces.keys
  pub indexed : 1 < length side.interfaces.keys → IsIndexed d side.interfaces.keys side.index
  pub sound : (q : ℕ) (x : PortEnd) → Among x (under (get nat_eq side.groups q)) → Among x (gate_ends d gate) × (x.interface ≡ q)
  pub whole : side.is_cut ≡ false → (x : PortEnd) → Among x (gate_ends d gate) → Among x (under (get nat_eq side.groups x.interface))
  pub known : (q : ℕ) → Among q side.known.keys → AreOf d gate q (under (get nat_eq side.groups q))

-- a side has all ends of an interface
abbrev pub HasInterface : Side → ℕ → Type 0
HasInterface side interface = (side.is_cut ≡ false) ⊎ Among interface side.known.keys
