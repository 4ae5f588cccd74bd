-- Connectors and the ports that they join (Software Component Template: AssemblySwConnector, DelegationSwConnector).
use Rattle.std.specs.Prelude.{◌≡◌, ◌<◌, ℕ, List, [], Bool, true, false, ◌&&◌, take, length, slice_get, Option, Some, None, option_map, option_and_then, ◌⊎◌}
use Rattle.std.specs.Option.{option_map_or}
use Rattle.description_types.specs.declared.component.Port.{Port}
use Rattle.description_types.specs.declared.component.PortKind.{PortKind}
use Rattle.description_types.specs.declared.component.PortKind.TheVariants.{Provided, Required}
use Rattle.description_types.specs.declared.description.Connector.{Connector}
use Rattle.description_types.specs.declared.description.Connector.TheVariants.{Assembly, Delegation}
use Rattle.description_types.specs.declared.description.Description.{Description}
use Rattle.description_types.specs.declared.description.InnerPort.{InnerPort}
use Rattle.description_types.specs.declared.description.PrototypeType.{PrototypeType}
use Rattle.description_types.specs.declared.description.PrototypeType.TheVariants.{Component, Composition}
use Rattle.description_types.specs.Members.{Among}
use Rattle.description_types.specs.Paths.{type_in}

-- the ports of a component or composition
abbrev pub ports_of : Description → PrototypeType → List Port
ports_of d (Component k) = option_map_or (λ x. x.ports) (slice_get d.components k) []
ports_of d (Composition c) = option_map_or (λ x. x.ports) (slice_get d.compositions c) []

abbrev pub kind_of : Description → PrototypeType → ℕ → Option PortKind
kind_of d t port = option_map (λ x. x.kind) (slice_get (ports_of d t) port)

-- the position of the interface of a port of a component or composition
abbrev pub interface_of : Description → PrototypeType → ℕ → Option ℕ
interface_of d t port = option_map (λ x. x.interface) (slice_get (ports_of d t) port)

-- the kind of a port of a prototype of the composition c
abbrev pub kind_in : Description → ℕ → InnerPort → Option PortKind
kind_in d c inner = option_and_then (λ t. kind_of d t inner.port) (type_in d (Composition c) inner.prototype)

abbrev pub connectors_of : Description → ℕ → List Connector
connectors_of d c = option_map_or (λ x. x.connectors) (slice_get d.compositions c) []

abbrev pub is_provided : Option PortKind → Bool
is_provided (Some Provided) = true
is_provided _ = false

abbrev pub is_required : Option PortKind → Bool
is_required (Some Required) = true
is_required _ = false

abbrev pub is_one_kind : Option PortKind → Option PortKind → Bool
is_one_kind (Some Provided) other = is_provided other
is_one_kind (Some Required) other = is_required other
is_one_kind None other = false

-- the ports are such that the connector may join them: an assembly a P-port to an R-port, a delegation two of one kind
abbrev pub lets_join : Description → ℕ → Connector → Bool
lets_join d c (Assembly provider requester) = is_provided (kind_in d c provider) && is_required (kind_in d c requester)
lets_join d c (Delegation inner outer) = is_one_kind (kind_of d (Composition c) outer) (kind_in d c inner)

-- Rule 11 is broken by the connector m of the composition c: by its ports, or since an earlier connector of it is equal.
abbrev pub IsBrokenConnector : Description → ℕ → ℕ → Type 0
IsBrokenConnector d c m = (x : Connector) × (slice_get (connectors_of d c) m ≡ Some x) × ((lets_join d c x ≡ false) ⊎ Among x (take m (connectors_of d c)))

-- the composition and the number of the first connector that breaks rule 11, if there is one
abbrev pub IsFirstBroken : Description → Option (ℕ × ℕ) → Type 0
IsFirstBroken d None = (c m : ℕ) → ¬ IsBrokenConnector d c m
IsFirstBroken d (Some p) = (p.0 < length d.compositions) × IsBrokenConnector d p.0 p.1 × ((m : ℕ) → m < p.1 → ¬ IsBrokenConnector d p.0 m) × ((c m : ℕ) → c < p.0 → ¬ IsBrokenConnector d c m)
