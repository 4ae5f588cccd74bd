use Rattle.std.proofs.Common.{ℕ, length}
use Rattle.description_types.specs.Members.{Among}
use Rattle.mapping_rules.specs.Edges.{HaveRanks}
use Rattle.mapping_rules.proofs.peeling.are_acyclic.Given as goal

abbrev pub invariant-loop-left : goal.invariant-loop-left
invariant-loop-left l = record {
  ranks : HaveRanks l.left.items → HaveRanks l.fn.edges.items;
  within : (e : ℕ × ℕ) → Among e l.left.items → Among e l.fn.edges.items;
}

abbrev pub decreases-loop-left : goal.decreases-loop-left
decreases-loop-left l = length l.left.items
