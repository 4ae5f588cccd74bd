use Rattle.std.proofs.Common.{◌≡◌, drop, ◌&&◌, ◌||◌}
use Rattle.std.specs.List.{list_any}
use Rattle.indexmap.specs.IndexSet.{contains}
use Rattle.plan_definitions.specs.Joins.{are_several, providers}
use Rattle.join_search.specs.Suspects.{PortKey, port_of, same_port}
use Rattle.join_search.proofs.suspects.ports_of_several.Given as goal

abbrev pub invariant-loop-join : goal.invariant-loop-join
invariant-loop-join l = (q : PortKey) → list_any (λ j. same_port (port_of j.required) q && are_several (providers l.degrees.joins.now j.required)) l.degrees.joins.now
    ≡ (contains same_port l.found q || list_any (λ j. same_port (port_of j.required) q && are_several (providers l.degrees.joins.now j.required)) (drop l.join-index l.degrees.joins.now))
