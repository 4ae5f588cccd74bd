use Rattle.std.proofs.Common.{◌≡◌, [], nat_eq, drop}
use Rattle.std.specs.List.{flat_map}
use Rattle.indexmap.specs.IndexSet.{insert_all}
use Rattle.description_types.specs.Paths.{held_by}
use Rattle.composition_tables.proofs.depth.held_by_any.Given as goal

abbrev pub invariant-loop-holder : goal.invariant-loop-holder
invariant-loop-holder l = insert_all nat_eq [] (flat_map (held_by l.d) l.holders) ≡ insert_all nat_eq l.held.keys (flat_map (held_by l.d) (drop l.holder-index l.holders))
