-- Links as joins.
use Rattle.std.specs.Prelude.{ℕ, Option, Some, None}
use Rattle.description_types.specs.declared.flat.End.{End}
use Rattle.description_types.specs.declared.flat.Join.{Join}
use Rattle.composition_tables.specs.declared.links.Item.{Item}
use Rattle.composition_tables.specs.declared.links.Link.{Link}
use Rattle.composition_tables.specs.declared.tree.Owner.{Owner}
use Rattle.composition_tables.specs.declared.tree.Owner.TheVariants.{Instance, Environment}

abbrev pub instance_of : Owner → Option ℕ
instance_of (Instance i) = Some i
instance_of Environment = None

abbrev pub end_of : Item → End
end_of x = record { instance = instance_of x.owner; port = x.port; element = x.element }

abbrev pub join_of : Link → Join
join_of x = record { provided = end_of x.provided; required = end_of x.required }
