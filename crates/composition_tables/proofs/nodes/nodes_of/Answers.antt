use Rattle.composition_tables.proofs.Noding.{from_none}
use Rattle.composition_tables.proofs.Sorting.{sorted_same}
use Rattle.composition_tables.proofs.nodes.nodes_of.Goals as goal

pub returns : goal.returns
returns c = λ x. sorted_same c.list_nodes.new.nodes.items c.sort.new.self.items x _ c.in_ok-sort.ensures.permutation (from_none c.new-nodes.result.items x _ _ c.new-nodes.ensures.items (c.in_ok-list_nodes.ensures x))
