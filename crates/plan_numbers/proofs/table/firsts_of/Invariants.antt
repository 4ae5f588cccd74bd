use Rattle.std.proofs.Common.{◌≡◌, drop}
use Rattle.std.specs.Map.{lookup}
use Rattle.std.specs.Option.{option_or}
use Rattle.indexmap.specs.IndexMap.{get}
use Rattle.plan_numbers.proofs.table.firsts_of.Given as goal

abbrev pub invariant-loop-entry : goal.invariant-loop-entry
invariant-loop-entry g l = (q : _) → lookup (g.K.PartialEq.eq q) l.entries ≡ option_or (get g.K.PartialEq.eq l.firsts q) (lookup (g.K.PartialEq.eq q) (drop l.entry-index l.entries))
