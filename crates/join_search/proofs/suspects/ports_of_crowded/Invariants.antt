use Rattle.std.proofs.Common.{◌≡◌, drop, ◌&&◌, ◌||◌}
use Rattle.std.specs.List.{list_any}
use Rattle.indexmap.specs.IndexSet.{contains}
use Rattle.join_search.specs.Partners.{key_of, same_key}
use Rattle.join_search.specs.Suspects.{PortKey, port_of, same_port}
use Rattle.join_search.proofs.suspects.ports_of_crowded.Given as goal

abbrev pub invariant-loop-join : goal.invariant-loop-join
invariant-loop-join l = (q : PortKey) → list_any (λ j. same_port (port_of j.required) q && contains same_key l.crowded (key_of j.required)) l.joins
    ≡ (contains same_port l.found q || list_any (λ j. same_port (port_of j.required) q && contains same_key l.crowded (key_of j.required)) (drop l.join-index l.joins))
