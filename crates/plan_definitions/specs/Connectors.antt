-- The two ports of a connector (Software Component Template: AssemblySwConnector, DelegationSwConnector).
use Rattle.std.specs.Prelude.{ℕ, List, [], Bool, true, false, slice_get, Option, Some, None, option_map, option_and_then, if◌then◌else◌}
use Rattle.std.specs.Option.{option_map_or}
use Rattle.description_types.specs.declared.interface.InterfaceKind.{InterfaceKind}
use Rattle.description_types.specs.declared.interface.InterfaceKind.TheVariants.{ClientServer}
use Rattle.description_types.specs.declared.interface.TypeTable.{TypeTable}
use Rattle.description_types.specs.declared.component.Port.{Port}
use Rattle.description_types.specs.declared.component.PortKind.{PortKind}
use Rattle.description_types.specs.declared.component.PortKind.TheVariants.{Provided, Required}
use Rattle.description_types.specs.declared.description.Composition.{Composition}
use Rattle.description_types.specs.declared.description.Connector.{Connector}
use Rattle.description_types.specs.declared.description.Connector.TheVariants as connector
use Rattle.description_types.specs.declared.description.Description.{Description}
use Rattle.description_types.specs.declared.description.InnerPort.{InnerPort}
use Rattle.description_types.specs.declared.description.PrototypeType.{PrototypeType}
use Rattle.description_types.specs.declared.description.PrototypeType.TheVariants as of_type
use Rattle.plan_definitions.specs.Firsts.{first_of}
use Rattle.plan_definitions.specs.Interfaces.{are_compatible}

-- the ports of a component or composition
abbrev pub ports_of : Description → PrototypeType → List Port
ports_of d (of_type.Component k) = option_map_or (λ x. x.ports) (slice_get d.components k) []
ports_of d (of_type.Composition c) = option_map_or (λ x. x.ports) (slice_get d.compositions c) []

-- the interface of a port of a prototype
abbrev pub inner_interface : Description → Composition → InnerPort → Option ℕ
inner_interface d c inner = option_map (λ port. port.interface)
    (option_and_then (λ p. slice_get (ports_of d p.of_type) inner.port) (slice_get c.prototypes inner.prototype))

-- two things if both are there
abbrev pub both : Option ℕ → Option ℕ → Option (ℕ × ℕ)
both (Some a) (Some b) = Some (a, b)
both _ _ = None

-- An outer R-port provides to the inner one, and an inner P-port to the outer one. (Both ports of a delegation are of one
-- kind, by the rule on connectors; else the kind of the outer one decides.)
abbrev pub delegated : Option ℕ → PortKind → ℕ → Option (ℕ × ℕ)
delegated inner Required outer = both (Some outer) inner
delegated inner Provided outer = both inner (Some outer)

-- the interface of the provided port of a connector, and that of the required one
abbrev pub sides : Description → Composition → Connector → Option (ℕ × ℕ)
sides d c (connector.Assembly provider requester) = both (inner_interface d c provider) (inner_interface d c requester)
sides d c (connector.Delegation inner outer) = option_and_then (λ port. delegated (inner_interface d c inner) port.kind port.interface) (slice_get c.ports outer)

-- the ports of a connector are compatible; not, if one is missing
abbrev pub joins_compatible : Description → Composition → Connector → Bool
joins_compatible d c k = option_map_or (λ x. are_compatible d.types x.0 x.1) (sides d c k) false

-- Rule 12: the ports of each connector of each composition are compatible. The composition and the connector that break it
-- first, in the order of the document.
abbrev pub incompatible_in : Description → Composition → Option ℕ
incompatible_in d c = first_of (λ m k. if joins_compatible d c k then None else Some m) 0 c.connectors

abbrev pub incompatible : Description → Option (ℕ × ℕ)
incompatible d = first_of (λ n c. option_map (λ m. (n, m)) (incompatible_in d c)) 0 d.compositions

-- Rule 13: no R-port of the root has a ClientServerInterface. The port that breaks it first.
abbrev pub is_client_server : InterfaceKind → Bool
is_client_server (ClientServer ops) = true
is_client_server _ = false

abbrev pub is_required : PortKind → Bool
is_required Required = true
is_required Provided = false

abbrev pub requires_server : TypeTable → Port → Bool
requires_server types port = if is_required port.kind then option_map_or (λ i. is_client_server i.kind) (slice_get types.interfaces port.interface) false else false

abbrev pub root_client : Description → Option ℕ
root_client d = first_of (λ k port. if requires_server d.types port then Some k else None) 0 (ports_of d (of_type.Composition d.root))
