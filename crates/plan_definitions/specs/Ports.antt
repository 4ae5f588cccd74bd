-- The ports of instances and of the environment, and what they say of their items (Software Component Template: PPortComSpec,
-- RPortComSpec).
use Rattle.std.specs.Prelude.{ℕ, List, [], ◌++◌, nat_eq, codes, slice_get, Option, Some, None, option_map, option_and_then}
use Rattle.bus_semantics.specs.Common.{find, option_map_or}
use Rattle.description_types.specs.declared.interface.ComSpec.{ComSpec}
use Rattle.description_types.specs.declared.interface.InterfaceKind.{InterfaceKind}
use Rattle.description_types.specs.declared.interface.InterfaceKind.TheVariants.{SenderReceiver, ClientServer, ModeSwitch}
use Rattle.description_types.specs.declared.component.Component.{Component}
use Rattle.description_types.specs.declared.component.Port.{Port}
use Rattle.description_types.specs.declared.description.Description.{Description}
use Rattle.description_types.specs.declared.flat.Flat.{Flat}
use Rattle.plan_definitions.specs.declared.site.Site.{Site}
use Rattle.plan_definitions.specs.Parts.{component_of}
use Rattle.plan_definitions.specs.Sites.{root_ports}

abbrev pub ports_of : Description → Flat → Option ℕ → List Port
ports_of d f (Some i) = option_map_or (λ c. c.ports) (component_of d f i) []
ports_of d f None = root_ports d

abbrev pub port_of : Description → Flat → Option ℕ → ℕ → Option Port
port_of d f owner k = slice_get (ports_of d f owner) k

abbrev pub interface_of : Description → Flat → Option ℕ → ℕ → Option InterfaceKind
interface_of d f owner k = option_map (λ i. i.kind) (option_and_then (λ port. slice_get d.types.interfaces port.interface) (port_of d f owner k))

-- what a port says of an item
abbrev pub com_spec_of : Description → Flat → Option ℕ → ℕ → ℕ → Option ComSpec
com_spec_of d f owner k item = option_and_then (λ port. find (λ s. nat_eq s.element item) port.com_specs) (port_of d f owner k)

-- how many wait at most: 1 if the port does not say
abbrev pub queue_length_of : Description → Flat → Option ℕ → ℕ → ℕ → ℕ
queue_length_of d f owner k item = option_map_or (λ s. s.queue_length) (com_spec_of d f owner k item) 1

-- the names PORT.ITEM, and of variables
abbrev pub item_name : InterfaceKind → ℕ → List ℕ
item_name (SenderReceiver elements) n = option_map_or (λ x. x.short_name) (slice_get elements n) []
item_name (ClientServer operations) n = option_map_or (λ x. x.short_name) (slice_get operations n) []
item_name (ModeSwitch element) n = element.short_name

abbrev pub port_name : Description → Flat → Option ℕ → ℕ → List ℕ
port_name d f owner k = option_map_or (λ port. port.short_name) (port_of d f owner k) []

abbrev pub item_text : Description → Flat → Option ℕ → ℕ → ℕ → List ℕ
item_text d f owner k item = (port_name d f owner k ++ codes ".") ++ option_map_or (λ kind. item_name kind item) (interface_of d f owner k) []

abbrev pub variable_name : Description → Flat → Option ℕ → ℕ → List ℕ
variable_name d f None n = []
variable_name d f (Some i) n = option_map_or (λ v. v.short_name) (option_and_then (λ c. slice_get c.behavior.variables n) (component_of d f i)) []

abbrev pub site_name : Description → Flat → Site → List ℕ
site_name d f s = by_port s.port
  where
    by_port : Option ℕ → List ℕ
    by_port None = variable_name d f s.owner s.item
    by_port (Some k) = item_text d f s.owner k s.item
