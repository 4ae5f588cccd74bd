-- How much a description lists: a file of 8 MiB lists fewer than 2 ^ 22 things of each kind in a component, so that 32 bits number
-- those of the 1,024 instances that rule 10 lets be.
use Rattle.std.specs.Prelude.{◌≡◌, ◌<◌, ◌^◌, ℕ, length, slice_get, Some}
use Rattle.description_types.specs.declared.interface.Interface.{Interface}
use Rattle.description_types.specs.declared.interface.TypeTable.{TypeTable}
use Rattle.description_types.specs.declared.component.Component.{Component}
use Rattle.description_types.specs.declared.description.Composition.{Composition}
use Rattle.description_types.specs.declared.description.Description.{Description}
use Rattle.description_types.specs.declared.flat.Flat.{Flat}
use Rattle.description_types.specs.Members.{sum_of}
use Rattle.plan_definitions.specs.declared.part.Part.{Part}
use Rattle.plan_definitions.specs.Callings.{callings}
use Rattle.plan_definitions.specs.Listed.{lists}
use Rattle.plan_definitions.specs.Parts.{counted, parts_of}
use Rattle.plan_definitions.specs.Things.{elements_of, machines_of, mode_ports_of, servers_of}
use Rattle.plan_definitions.specs.WellFormed.{item_count}

-- the accesses of all runnables of a component
abbrev pub access_count : Component → ℕ
access_count c = sum_of (λ r. length r.accesses) c.behavior.runnables

-- and their coherent access lists
abbrev pub list_count : Component → ℕ
list_count c = sum_of (λ r. length r.coherent) c.behavior.runnables

-- a component has few ports, variables, runnables, events, areas, accesses and coherent access lists
pub record HasFewInside (c : Component) : Type 0 where
  pub ports : length c.ports < 2 ^ 22
  pub variables : length c.behavior.variables < 2 ^ 22
  pub parts : (part : Part) → counted part c < 2 ^ 22
  pub accesses : access_count c < 2 ^ 22
  pub lists : list_count c < 2 ^ 22

-- each interface has few items
pub record HasShortInterfaces (types : TypeTable) : Type 0 where
  pub interfaces : (i : ℕ) (x : Interface) → slice_get types.interfaces i ≡ Some x → item_count x.kind < 2 ^ 22

-- each component has few parts, each composition few ports, and each interface few items
pub record HasFewParts (d : Description) : Type 0 where
  pub components : (i : ℕ) (c : Component) → slice_get d.components i ≡ Some c → HasFewInside c
  pub compositions : (i : ℕ) (c : Composition) → slice_get d.compositions i ≡ Some c → length c.ports < 2 ^ 22
  pub types : HasShortInterfaces d.types

-- 32 bits number what a plan numbers of each kind
pub record HasFewThings (d : Description) (f : Flat) : Type 0 where
  pub parts : HasFewParts d
  pub instances : length f.instances < 2 ^ 32
  pub elements : length (elements_of d f) < 2 ^ 32
  pub servers : length (servers_of d f) < 2 ^ 32
  pub machines : length (machines_of d f) < 2 ^ 32
  pub mode_ports : length (mode_ports_of d f) < 2 ^ 32
  pub pairs : (part : Part) → length (parts_of part d f) < 2 ^ 32
  pub points : length (callings d f) < 2 ^ 32
  pub lists : length (lists d f) < 2 ^ 32
