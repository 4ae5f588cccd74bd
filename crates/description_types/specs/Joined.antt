-- Which ends are joined (VFB: connectors; Software Component Template: PortInterface). From the port of a component that
-- provides, a chain of connectors goes up over delegations, across one assembly, and down over delegations to the port of a
-- component that requires. From or to a port of the root, which is the environment's, it goes over delegations alone. Only
-- connectors count that may join their ports.
use Rattle.std.specs.Prelude.{◌≡◌, ℕ, List, [], ◌∷◌, true, slice_get, Option, Some, None, option_map, option_and_then, ◌⊎◌}
use Rattle.description_types.specs.declared.component.PortKind.{PortKind}
use Rattle.description_types.specs.declared.component.PortKind.TheVariants.{Provided, Required}
use Rattle.description_types.specs.declared.description.Connector.TheVariants.{Assembly, Delegation}
use Rattle.description_types.specs.declared.description.Description.{Description}
use Rattle.description_types.specs.declared.description.InnerPort.{InnerPort}
use Rattle.description_types.specs.declared.description.PrototypeType.TheVariants.{Composition}
use Rattle.description_types.specs.declared.interface.InterfaceKind.{InterfaceKind}
use Rattle.description_types.specs.declared.flat.Join.{Join}
use Rattle.description_types.specs.Connectors.{connectors_of, interface_of, kind_of, lets_join}
use Rattle.description_types.specs.Places.{places}
use Rattle.description_types.specs.Items.{interface_at, ItemsJoin}
use Rattle.description_types.specs.Members.{Among}
use Rattle.description_types.specs.Paths.{type_at}

-- a port of what stands at the end of a path below the root; the root itself stands at the end of the empty one
pub record Stand : Type 0 where
  pub path : List ℕ
  pub port : ℕ

-- the inner port that a stand is in the composition round it
abbrev pub as_inner : ℕ → Stand → InnerPort
as_inner prototype s = record { prototype = prototype; port = s.port }

-- a delegation leads from the upper stand down to the lower one
pub record Delegates (d : Description) (upper lower : Stand) : Type 0 where
  pub composition : ℕ
  pub stands : type_at d (Composition d.root) upper.path ≡ Some (Composition composition)
  pub prototype : ℕ
  pub inside : lower.path ≡ prototype ∷ upper.path
  pub connects : Among (Delegation (as_inner prototype lower) upper.port) (connectors_of d composition)
  pub lets : lets_join d composition (Delegation (as_inner prototype lower) upper.port) ≡ true

-- an assembly leads across from the provided stand to the required one
pub record Assembles (d : Description) (provided required : Stand) : Type 0 where
  pub composition : ℕ
  pub path : List ℕ
  pub stands : type_at d (Composition d.root) path ≡ Some (Composition composition)
  pub provider : ℕ
  pub requester : ℕ
  pub inside_provider : provided.path ≡ provider ∷ path
  pub inside_requester : required.path ≡ requester ∷ path
  pub connects : Among (Assembly (as_inner provider provided) (as_inner requester required)) (connectors_of d composition)
  pub lets : lets_join d composition (Assembly (as_inner provider provided) (as_inner requester required)) ≡ true

-- delegations alone lead down from the upper stand to the lower one, or they are the same
pub data IsBelow (d : Description) (lower : Stand) : Stand → Type 0 where
  itself : IsBelow d lower lower
  further : {upper next : Stand} → Delegates d upper next → IsBelow d lower next → IsBelow d lower upper

-- at least one delegation leads down from this port of the root, which has this kind
pub record IsOutside (d : Description) (kind : PortKind) (outer inner : Stand) : Type 0 where
  pub root : outer.path ≡ []
  pub is_kind : kind_of d (Composition d.root) outer.port ≡ Some kind
  pub next : Stand
  pub down : Delegates d outer next
  pub rest : IsBelow d inner next

-- a chain goes up, across an assembly and down
pub record IsChain (d : Description) (provided required : Stand) : Type 0 where
  pub upper : Stand
  pub other : Stand
  pub up : IsBelow d provided upper
  pub across : Assembles d upper other
  pub down : IsBelow d required other

-- the stands are joined: by a chain between instances, from the environment or to it
abbrev pub StandsJoin : Description → Stand → Stand → Type 0
StandsJoin d provided required = IsChain d provided required ⊎ (IsOutside d Required provided required ⊎ IsOutside d Provided required provided)

-- where the port of an end stands
abbrev pub stand_in : Description → Option ℕ → ℕ → Option Stand
stand_in d None port = Some (record { path = []; port = port })
stand_in d (Some instance) port = option_map (λ place. record { path = place.path; port = port }) (slice_get (places d) instance)

-- what its interface is
abbrev pub interface_below : Description → Stand → Option InterfaceKind
interface_below d s = option_and_then (λ t. option_and_then (interface_at d) (interface_of d t s.port)) (type_at d (Composition d.root) s.path)

-- the two items are joined
pub record IsJoined (d : Description) (j : Join) : Type 0 where
  pub provided : Stand
  pub required : Stand
  pub is_provided : stand_in d j.provided.instance j.provided.port ≡ Some provided
  pub is_required : stand_in d j.required.instance j.required.port ≡ Some required
  pub stands : StandsJoin d provided required
  pub items : ItemsJoin (interface_below d provided) (interface_below d required) j.provided.element j.required.element
