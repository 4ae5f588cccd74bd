-- The lists of a plan, piece by piece.
use Rattle.std.specs.Prelude.{◌≡◌, map}
use Rattle.plan_definitions.specs.Common.{Flat, Description, elem_seen, elements, leaders, groups, events, machines, mode_ports, points, servers, areas}
use Rattle.event_mapping.specs.declared.pieces.Pieces.{Pieces}
use Rattle.event_mapping.specs.declared.pieces.Items.{Items}
use Rattle.event_mapping.specs.declared.pieces.Modes.{Modes}
use Rattle.event_mapping.specs.declared.pieces.Services.{Services}

pub record AreItems (d : Description) (f : Flat) (x : Items) : Type 0 where
  pub names : x.names ≡ map (λ i. i.path) f.instances
  pub elements : map elem_seen x.elements ≡ elements d f
  pub groups : x.groups ≡ groups (leaders d f)

pub record AreServices (d : Description) (f : Flat) (x : Services) : Type 0 where
  pub points : x.points ≡ points d f
  pub servers : x.servers ≡ servers d f
  pub areas : x.areas ≡ areas d f

pub record AreModes (d : Description) (f : Flat) (x : Modes) : Type 0 where
  pub machines : x.machines ≡ machines d f
  pub mode_ports : x.mode_ports ≡ mode_ports d f

pub record ArePieces (d : Description) (f : Flat) (x : Pieces) : Type 0 where
  pub items : AreItems d f x.items
  pub services : AreServices d f x.services
  pub modes : AreModes d f x.modes
  pub events : x.events ≡ events d f
