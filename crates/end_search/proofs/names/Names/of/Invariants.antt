use Rattle.std.proofs.Common.{◌≡◌, ℕ, ◌<◌, ◌↔◌, List, Bor, Some, slice_get}
use Rattle.indexmap.specs.IndexMap.{get}
use Rattle.end_search.specs.Tables.{names_of, same_name}
use Rattle.composition_tables.specs.Multi.{under}
use Rattle.description_types.specs.Members.{Among}
use Rattle.end_search.proofs.names.Names.of.Given as goal

abbrev pub invariant-loop-position : goal.invariant-loop-position
invariant-loop-position l = (q : Bor (List ℕ)) (j : ℕ) → Among j (under (get same_name l.places q)) ↔ ((slice_get (names_of l.names.items) j ≡ Some q.now) × (j < l.position))
