use Rattle.std.proofs.Common.{◌≡◌, take, filter, nat_eq}
use Rattle.indexmap.specs.IndexSet.{contains}
use Rattle.mapping_rules.proofs.peeling.starting_in.Given as goal

abbrev pub invariant-loop-edge : goal.invariant-loop-edge
invariant-loop-edge l = l.kept.items ≡ filter (λ e. contains nat_eq l.targets e.0) (take l.edge-index l.edges)
