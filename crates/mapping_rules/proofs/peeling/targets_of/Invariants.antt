use Rattle.std.proofs.Common.{◌≡◌, ℕ, take, nat_eq}
use Rattle.indexmap.specs.IndexSet.{contains}
use Rattle.mapping_rules.specs.Edges.{has_edge_to}
use Rattle.mapping_rules.proofs.peeling.targets_of.Given as goal

abbrev pub invariant-loop-edge : goal.invariant-loop-edge
invariant-loop-edge l = (q : ℕ) → contains nat_eq l.targets q ≡ has_edge_to q (take l.edge-index l.edges)
