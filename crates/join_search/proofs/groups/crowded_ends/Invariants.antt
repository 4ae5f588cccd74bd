use Rattle.std.proofs.Common.{◌≡◌, drop, ◌&&◌, ◌||◌}
use Rattle.std.specs.List.{list_any}
use Rattle.indexmap.specs.IndexSet.{contains}
use Rattle.description_types.specs.declared.flat.End.{End}
use Rattle.plan_definitions.specs.Joins.{same_end, crowds}
use Rattle.join_search.specs.Partners.{key_of, same_key}
use Rattle.join_search.proofs.groups.crowded_ends.Given as goal

abbrev pub invariant-loop-join : goal.invariant-loop-join
invariant-loop-join l = (e : End) → list_any (λ j. same_end j.provided e && crowds l.degrees.joins.now j) l.degrees.joins.now
    ≡ (contains same_key l.found (key_of e) || list_any (λ j. same_end j.provided e && crowds l.degrees.joins.now j) (drop l.join-index l.degrees.joins.now))
