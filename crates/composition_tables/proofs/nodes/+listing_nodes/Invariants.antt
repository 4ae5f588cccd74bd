use Rattle.std.proofs.Common.{◌≡◌, ◌*◌, ◌+◌, ◌-◌, ◌<◌, ℕ, ◌↔◌, ◌⊎◌}
use Rattle.composition_tables.specs.declared.nodes.Node.{Node}
use Rattle.composition_tables.specs.Nodes.{IsInnerNode}
use Rattle.description_types.specs.Members.{Among}
use Rattle.composition_tables.proofs.nodes.+listing_nodes.Given as goal

abbrev pub invariant-list_nodes-loop-prototype : goal.invariant-list_nodes-loop-prototype
invariant-list_nodes-loop-prototype l = (x : Node) → Among x l.nodes.items
    ↔ (Among x l.fn.nodes.items ⊎ ((x ≡ record { depth = l.depth - 1; composition = l.composition; first = l.first }) ⊎ ((q : ℕ) × (q < l.prototype) × IsInnerNode l.tree.d.now (l.depth - 1) l.composition l.first q x)))

abbrev pub decreases-list_nodes : goal.decreases-list_nodes
decreases-list_nodes l = 2 * l.depth

abbrev pub decreases-list_node : goal.decreases-list_node
decreases-list_node l = 2 * l.depth + 1
