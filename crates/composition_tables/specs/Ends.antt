-- Which ports of instances stand below a port, as they are found: through delegations, from composition to composition.
use Rattle.std.specs.Prelude.{◌==◌, ◌&&◌, ◌+◌, ◌-◌, ◌^◌, ℕ, zero, suc, List, [], ◌∷◌, take, min, Option, Some, None, if◌then◌else◌}
use Rattle.std.specs.List.{flat_map, filter_map}
use Rattle.std.specs.Option.{option_map_or}
use Rattle.description_types.specs.declared.description.Connector.{Connector}
use Rattle.description_types.specs.declared.description.Connector.TheVariants.{Assembly, Delegation}
use Rattle.description_types.specs.declared.description.Description.{Description}
use Rattle.description_types.specs.declared.description.InnerPort.{InnerPort}
use Rattle.description_types.specs.declared.description.PrototypeType.{PrototypeType}
use Rattle.description_types.specs.declared.description.PrototypeType.TheVariants.{Component, Composition}
use Rattle.composition_tables.specs.declared.tree.Owner.TheVariants.{Instance}
use Rattle.composition_tables.specs.declared.tree.PortEnd.{PortEnd}
use Rattle.description_types.specs.Connectors.{connectors_of, interface_of, lets_join}
use Rattle.description_types.specs.Places.{size, size_of}
use Rattle.description_types.specs.Members.{sum_of}
use Rattle.description_types.specs.Paths.{prototypes_of, type_in}

-- how many instances at most n deep below their prototypes stand before those of the prototype q in the composition c
abbrev pub offset : Description → ℕ → ℕ → ℕ → ℕ
offset d n c q = sum_of (λ p. size_of (size d n) p.of_type) (take q (prototypes_of d c))

-- a number so many further on, as far as the program counts
abbrev pub number_from : ℕ → ℕ → ℕ
number_from first further = min (first + min further 1025) (2 ^ 32 - 1)

-- the inner port, if the connector delegates to it from the outer port and may join the two
abbrev pub delegated : Description → ℕ → ℕ → Connector → Option InnerPort
delegated d c outer (Assembly p r) = None
delegated d c outer (Delegation inner o) = if o == outer && lets_join d c (Delegation inner o) then Some inner else None

-- the inner ports that the composition c delegates its outer port to
abbrev pub inner_ports : Description → ℕ → ℕ → List InnerPort
inner_ports d c outer = filter_map (delegated d c outer) (connectors_of d c)

-- the port with this interface, as the port of the instance of this number
abbrev pub own_end : Option ℕ → ℕ → ℕ → List PortEnd
own_end None first port = []
own_end (Some interface) first port = record { owner = Instance first; port = port; interface = interface } ∷ []

-- the ends below an inner port, by those below the ports of the prototypes
abbrev pub inner_ends : Description → ℕ → (PrototypeType → ℕ → ℕ → List PortEnd) → ℕ → ℕ → InnerPort → List PortEnd
inner_ends d n deeper c first inner = option_map_or (λ t. deeper t (number_from first (offset d n c inner.prototype)) inner.port) (type_in d (Composition c) inner.prototype) []

-- The ports of instances at or below the port of what stands here, at most n prototypes down. The first of its instances has
-- the number `first`.
abbrev pub ends : Description → ℕ → PrototypeType → ℕ → ℕ → List PortEnd
ends d n (Component k) first port = own_end (interface_of d (Component k) port) first port
ends d zero (Composition c) first port = []
ends d (suc n) (Composition c) first port = flat_map (inner_ends d n (ends d n) c first) (inner_ports d c port)
