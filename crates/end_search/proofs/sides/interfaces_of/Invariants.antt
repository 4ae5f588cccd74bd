use Rattle.std.proofs.Common.{take}
use Rattle.composition_tables.specs.declared.tree.PortEnd.{PortEnd}
use Rattle.description_types.specs.Members.{Among}
use Rattle.end_search.proofs.sides.interfaces_of.Given as goal

abbrev pub invariant-loop-end : goal.invariant-loop-end
invariant-loop-end l = (x : PortEnd) → Among x (take l.end-index l.ends) → Among x.interface l.interfaces.keys
