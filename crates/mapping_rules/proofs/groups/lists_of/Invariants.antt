use Rattle.std.proofs.Common.{◌≡◌, take}
use Rattle.indexmap.specs.IndexMap.{get}
use Rattle.mapping_rules.specs.Groups.{under, values_at}
use Rattle.mapping_rules.proofs.groups.lists_of.Given as goal

abbrev pub invariant-loop-entry : goal.invariant-loop-entry
invariant-loop-entry g l = (q : _) → under (get g.K.PartialEq.eq l.lists q) ≡ values_at (g.K.PartialEq.eq q) (take l.entry-index l.entries)
