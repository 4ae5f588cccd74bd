-- The order of joins: by the provided and then the required end, an end by instance, port and item, the environment last.
use Rattle.std.specs.Prelude.{ℕ, Option, Some, None}
use Rattle.std.specs.Ordering.{nat_cmp, ordering_then}
use Rattle.std.specs.declared.cmp.Ordering.{Ordering}
use Rattle.std.specs.declared.cmp.Ordering.TheVariants.{Less, Equal, Greater}
use Rattle.description_types.specs.declared.flat.End.{End}
use Rattle.description_types.specs.declared.flat.Join.{Join}

abbrev pub instance_order : Option ℕ → Option ℕ → Ordering
instance_order (Some a) (Some b) = nat_cmp a b
instance_order (Some a) None = Less
instance_order None (Some b) = Greater
instance_order None None = Equal

abbrev pub end_order : End → End → Ordering
end_order x y = ordering_then (instance_order x.instance y.instance) (ordering_then (nat_cmp x.port y.port) (nat_cmp x.element y.element))

abbrev pub join_order : Join → Join → Ordering
join_order x y = ordering_then (end_order x.provided y.provided) (end_order x.required y.required)
