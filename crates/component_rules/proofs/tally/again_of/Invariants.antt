use Rattle.std.proofs.Common.{◌≡◌, drop}
use Rattle.indexmap.specs.IndexMap.{get}
use Rattle.plan_definitions.specs.Counts.{count}
use Rattle.component_rules.specs.Tallies.{again_in}
use Rattle.component_rules.proofs.Tallying.{after}
use Rattle.component_rules.proofs.tally.again_of.Given as goal

abbrev pub invariant-loop-key : goal.invariant-loop-key
invariant-loop-key g l = (q : _) → again_in (count (g.K.PartialEq.eq q) l.keys) ≡ after (get g.K.PartialEq.eq l.again q) (count (g.K.PartialEq.eq q) (drop l.key-index l.keys))
