-- The links of a description, as they are found: those that a composition's assemblies make below it, with instances numbered
-- from its own first one on, and those of the environment.
use Rattle.std.specs.Prelude.{◌≡◌, ℕ, List, [], true, Option, Some, None, ◌⊎◌}
use Rattle.description_types.specs.declared.component.PortKind.{PortKind}
use Rattle.description_types.specs.declared.component.PortKind.TheVariants.{Provided, Required}
use Rattle.description_types.specs.declared.description.Connector.{Connector}
use Rattle.description_types.specs.declared.description.Connector.TheVariants.{Assembly, Delegation}
use Rattle.description_types.specs.declared.description.Description.{Description}
use Rattle.description_types.specs.declared.description.PrototypeType.TheVariants.{Composition}
use Rattle.composition_tables.specs.declared.links.Item.{Item}
use Rattle.composition_tables.specs.declared.links.Link.{Link}
use Rattle.composition_tables.specs.declared.nodes.Node.{Node}
use Rattle.composition_flatten.specs.declared.whole.Own.{Own}
use Rattle.composition_tables.specs.declared.tree.PortEnd.{PortEnd}
use Rattle.description_types.specs.Connectors.{connectors_of, interface_of, kind_of, lets_join}
use Rattle.composition_tables.specs.Ends.{ends, inner_ends}
use Rattle.description_types.specs.Growing.{AnyOf, Grown}
use Rattle.end_crossing.specs.PortLinks.{IsCrossLink}
use Rattle.composition_tables.specs.Nodes.{IsNode}
use Rattle.composition_tables.specs.Owners.{owner_from}
use Rattle.end_search.specs.Gates.{outer_ends}

-- a link that an assembly of the composition c makes, the ports of its prototypes at most n deep below
abbrev pub IsAssemblyLink : Description → ℕ → ℕ → Connector → Link → Type 0
IsAssemblyLink d n c (Assembly p r) x = (lets_join d c (Assembly p r) ≡ true) × IsCrossLink d (inner_ends d n (ends d n) c 0 p) (inner_ends d n (ends d n) c 0 r) x
IsAssemblyLink d n c (Delegation inner outer) x = ⊥

abbrev pub IsOwnLink : Description → ℕ → ℕ → Link → Type 0
IsOwnLink d n c x = AnyOf (IsAssemblyLink d n c) (connectors_of d c) x

abbrev pub item_from : ℕ → Item → Item
item_from first x = record { owner = owner_from first x.owner; port = x.port; element = x.element }

abbrev pub link_from : ℕ → Link → Link
link_from first x = record { provided = item_from first x.provided; required = item_from first x.required }

-- a link that a composition makes where it stands
abbrev pub IsNodeLink : Description → Node → Link → Type 0
IsNodeLink d node x = (y : Link) × IsOwnLink d node.depth node.composition y × (x ≡ link_from node.first y)

-- a link of a port of the root, the environment's: it provides at an R-port, and requires at a P-port
abbrev pub outer_link : Option PortKind → Description → List PortEnd → List PortEnd → Link → Type 0
outer_link (Some Required) d own inner x = IsCrossLink d own inner x
outer_link (Some Provided) d own inner x = IsCrossLink d inner own x
outer_link None d own inner x = ⊥

abbrev pub IsOuterLink : Description → ℕ → Link → Type 0
IsOuterLink d port x = outer_link (kind_of d (Composition d.root) port) d (outer_ends (interface_of d (Composition d.root) port) port) (ends d 8 (Composition d.root) 0 port) x

-- a link that an assembly of a composition makes where the composition stands
abbrev pub IsInnerLink : Description → Link → Type 0
IsInnerLink d x = (node : Node) × IsNode d 8 d.root 0 node × IsNodeLink d node x

-- a link of the description
abbrev pub IsLink : Description → Link → Type 0
IsLink d x = IsInnerLink d x ⊎ ((port : ℕ) × IsOuterLink d port x)

-- the links of a composition, as they are kept
abbrev pub IsOwn : Description → Own → Type 0
IsOwn d own = Grown (IsOwnLink d own.depth own.composition) [] own.links.items own.is_full
