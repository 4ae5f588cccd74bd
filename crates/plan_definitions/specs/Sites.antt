-- What a plan numbers at ports, and variables (Software Component Template: what a flattened description keeps).
use Rattle.std.specs.Prelude.{ℕ, List, [], ◌++◌, map, length, Bool, is_some, not, ◌&&◌, slice_get, Option, Some, None, option_map, if◌then◌else◌}
use Rattle.std.specs.Option.{option_map_or}
use Rattle.description_types.specs.declared.interface.InterfaceKind.{InterfaceKind}
use Rattle.description_types.specs.declared.interface.InterfaceKind.TheVariants.{SenderReceiver, ClientServer, ModeSwitch}
use Rattle.description_types.specs.declared.interface.TypeTable.{TypeTable}
use Rattle.description_types.specs.declared.component.Component.{Component}
use Rattle.description_types.specs.declared.component.Port.{Port}
use Rattle.description_types.specs.declared.component.PortKind.{PortKind}
use Rattle.description_types.specs.declared.component.PortKind.TheVariants.{Provided, Required}
use Rattle.description_types.specs.declared.description.Description.{Description}
use Rattle.description_types.specs.declared.flat.Flat.{Flat}
use Rattle.description_types.specs.declared.flat.Instance.{Instance}
use Rattle.plan_definitions.specs.declared.site.Site.{Site}
use Rattle.plan_definitions.specs.declared.site.SiteKind.{SiteKind}
use Rattle.plan_definitions.specs.declared.site.SiteKind.TheVariants.{Element, Variable, Server, Machine, ModePort}
use Rattle.plan_definitions.specs.Lists.{positions, from}

-- an instance provides at its P-ports, the environment at the R-ports of the root
abbrev pub provides_at : Option ℕ → PortKind → Bool
provides_at owner Provided = is_some owner
provides_at owner Required = not (is_some owner)

-- what the items of a port are
abbrev pub kind_at : Option ℕ → PortKind → InterfaceKind → SiteKind
kind_at owner side (SenderReceiver elements) = Element (provides_at owner side)
kind_at owner side (ClientServer operations) = Server
kind_at owner side (ModeSwitch element) = if provides_at owner side then Machine else ModePort

-- how many of them there are; an operation is one if an instance provides it
abbrev pub count_at : Option ℕ → PortKind → InterfaceKind → ℕ
count_at owner side (SenderReceiver elements) = length elements
count_at owner side (ClientServer operations) = if is_some owner && provides_at owner side then length operations else 0
count_at owner side (ModeSwitch element) = 1

abbrev pub site : Option ℕ → Option ℕ → ℕ → SiteKind → Site
site owner port item kind = record { owner = owner; port = port; item = item; kind = kind }

-- those of a port, of ports in declared order, and the variables of an instance
abbrev pub sites_with : Option ℕ → ℕ → SiteKind → ℕ → List Site
sites_with owner k kind count = map (λ n. site owner (Some k) n kind) (positions 0 count)

abbrev pub shape_at : TypeTable → Option ℕ → Port → Option (SiteKind × ℕ)
shape_at types owner port = option_map (λ i. (kind_at owner port.kind i.kind, count_at owner port.kind i.kind)) (slice_get types.interfaces port.interface)

abbrev pub sites_at : TypeTable → Option ℕ → ℕ → Port → List Site
sites_at types owner k port = option_map_or (λ x. sites_with owner k x.0 x.1) (shape_at types owner port) []

abbrev pub sites_of_ports : TypeTable → Option ℕ → List Port → List Site
sites_of_ports types owner ports = from 0 (sites_at types owner) ports

abbrev pub variables_of : ℕ → ℕ → List Site
variables_of i count = map (λ n. site (Some i) None n Variable) (positions 0 count)

-- those of an instance: the items of its ports, then its variables
abbrev pub sites_of_component : TypeTable → ℕ → Component → List Site
sites_of_component types i c = sites_of_ports types (Some i) c.ports ++ variables_of i (length c.behavior.variables)

abbrev pub sites_of_instance : Description → ℕ → Instance → List Site
sites_of_instance d i x = option_map_or (sites_of_component d.types i) (slice_get d.components x.component) []

-- the outer ports of the root
abbrev pub root_ports : Description → List Port
root_ports d = option_map_or (λ c. c.ports) (slice_get d.compositions d.root) []

-- All of them: by instance, within it in declared order, the environment last.
abbrev pub sites : Description → Flat → List Site
sites d f = from 0 (sites_of_instance d) f.instances ++ sites_of_ports d.types None (root_ports d)
