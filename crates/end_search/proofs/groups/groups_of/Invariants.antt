use Rattle.std.proofs.Common.{◌≡◌, ℕ, ◌↔◌, nat_eq, take}
use Rattle.indexmap.specs.IndexMap.{get}
use Rattle.composition_tables.specs.declared.tree.PortEnd.{PortEnd}
use Rattle.composition_tables.specs.Multi.{under}
use Rattle.description_types.specs.Members.{Among}
use Rattle.end_search.proofs.groups.groups_of.Given as goal

abbrev pub invariant-loop-end : goal.invariant-loop-end
invariant-loop-end l = (q : ℕ) (x : PortEnd) → Among x (under (get nat_eq l.groups q)) ↔ (Among x (take l.end-index l.ends) × (x.interface ≡ q))
