use Rattle.std.proofs.Common.{◌≡◌, drop, map}
use Rattle.bus_semantics.specs.Bundles.{leaders_on}
use Rattle.plan_definitions.specs.Common.{elem_seen, groups_listed}
use Rattle.plan_elements.specs.Bundled.{leaders_over}
use Rattle.plan_elements.proofs.bundles.leaders_over.Given as goal

abbrev pub invariant-loop-list : goal.invariant-loop-list
invariant-loop-list l = leaders_over (map elem_seen l.elements) l.lists l.groups ≡ leaders_on l.labels.items (map (groups_listed (map elem_seen l.elements)) (drop l.list-index l.lists))
