-- The ends of ports, as they are kept.
use Rattle.std.specs.Prelude.{◌≡◌, ◌↔◌, List, Bool, Some, Vec}
use Rattle.std.specs.Global.{Global}
use Rattle.description_types.specs.declared.description.Description.{Description}
use Rattle.indexmap.specs.IndexMap.{get}
use Rattle.end_search.specs.contracts.gates.GatePartialEq.TheImpl.{eq-value}
use Rattle.end_search.specs.declared.gates.Gate.{Gate}
use Rattle.end_search.specs.declared.near.Near.{Near}
use Rattle.end_search.specs.declared.seek.Wanted.{Wanted}
use Rattle.composition_tables.specs.declared.tree.PortEnd.{PortEnd}
use Rattle.description_types.specs.Members.{Among}
use Rattle.end_search.specs.Gates.{gate_ends}
use Rattle.end_search.specs.Wishes.{IsWanted}

abbrev pub same_gate : Gate → Gate → Bool
same_gate a b = (eq-value).it a b

-- these are the ends at or below a gate that are wanted
abbrev pub AreKept : Description → Wanted → Gate → List PortEnd → Type 0
AreKept d w gate list = (x : PortEnd) → Among x list ↔ (Among x (gate_ends d gate) × IsWanted w x.interface)

-- what is kept of gates is right
abbrev pub AreNear : Description → Wanted → Near → Type 0
AreNear d w near = (g : Gate) (list : Vec PortEnd Global) → get same_gate near.ends g ≡ Some list → AreKept d w g list.items
