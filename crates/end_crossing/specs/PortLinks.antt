-- The links of ports whose interfaces have items that are joined.
use Rattle.std.specs.Prelude.{◌≡◌, ℕ, List}
use Rattle.description_types.specs.declared.description.Description.{Description}
use Rattle.composition_tables.specs.declared.links.Item.{Item}
use Rattle.composition_tables.specs.declared.links.Link.{Link}
use Rattle.composition_tables.specs.declared.tree.PortEnd.{PortEnd}
use Rattle.description_types.specs.Growing.{AnyOf}
use Rattle.description_types.specs.Items.{interface_at, ItemsJoin}

abbrev pub item_of : PortEnd → ℕ → Item
item_of e i = record { owner = e.owner; port = e.port; element = i }

-- the link of two items of a provided and a required port
abbrev pub link_of : PortEnd → PortEnd → ℕ × ℕ → Link
link_of p r items = record { provided = item_of p items.0; required = item_of r items.1 }

-- a link of two ports
abbrev pub IsPairLink : Description → PortEnd → PortEnd → Link → Type 0
IsPairLink d p r x = (i : ℕ) × (j : ℕ) × ItemsJoin (interface_at d p.interface) (interface_at d r.interface) i j × (x ≡ link_of p r (i, j))

-- a link of one of the provided ports and one of the required ones
abbrev pub IsCrossLink : Description → List PortEnd → List PortEnd → Link → Type 0
IsCrossLink d provided required x = AnyOf (λ p. AnyOf (IsPairLink d p) required) provided x
