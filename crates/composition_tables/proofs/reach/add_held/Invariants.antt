use Rattle.std.proofs.Common.{◌≡◌, nat_eq, drop}
use Rattle.std.specs.List.{filter_map}
use Rattle.indexmap.specs.IndexSet.{insert_all}
use Rattle.description_types.specs.Paths.{held_by, declared_composition}
use Rattle.composition_tables.proofs.reach.add_held.Given as goal

abbrev pub invariant-loop-prototype : goal.invariant-loop-prototype
invariant-loop-prototype l = insert_all nat_eq l.fn.found.keys (held_by l.d l.holder) ≡ insert_all nat_eq l.found.keys (filter_map (declared_composition l.d) (drop l.prototype-index l.prototype-items))
