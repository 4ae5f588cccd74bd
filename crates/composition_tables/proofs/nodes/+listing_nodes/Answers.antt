use Rattle.std.proofs.Common.{◌≡◌, ◌∙◌, ◌-◌, suc, ap, sym, arith, length, Some}
use Rattle.composition_tables.specs.Counts.{count_in}
use Rattle.composition_tables.proofs.Noding.{type_declared, inner_dead, inner_live, nodes_begin, nodes_more, nodes_all}
use Rattle.composition_tables.proofs.nodes.+listing_nodes.Goals as goal

pub list_node-returns-then-count_below-eq0 : goal.list_node-returns-then-count_below-eq0
list_node-returns-then-count_below-eq0 t c = λ x. inner_dead c.args.tree.now.d.now c.args.depth c.args.composition c.args.first c.args.prototype c.in-Some-Composition.held (sym c.inner_type.ensures ∙ c.in-Some-Composition.is ∙ ap (λ u. Some u) c.in-Some-Composition.field-0-is) x
    c.args.tree.now.levels.items c.count_below.result _ c.requires.is_tree.counted c.requires.within (c.count_below.ensures ∙ ap (λ l. count_in l c.args.depth c.in-Some-Composition.held) c.as_slice.ensures.value) c.if-count_below-eq0.true

pub list_node-start_at-start-requires-clause-declared : goal.list_node-start_at-start-requires-clause-declared
list_node-start_at-start-requires-clause-declared t c = type_declared c.args.tree.now.d.now c.args.composition c.args.prototype _ (sym c.inner_type.ensures ∙ c.in-Some-Composition.is)

pub list_node-returns-in_ok-list_nodes-in-Some-Composition : goal.list_node-returns-in_ok-list_nodes-in-Some-Composition
list_node-returns-in_ok-list_nodes-in-Some-Composition t c = λ x. inner_live c.args.tree.now.d.now c.args.depth c.args.composition c.args.first c.args.prototype c.in-Some-Composition.held (sym c.inner_type.ensures ∙ c.in-Some-Composition.is ∙ ap (λ u. Some u) c.in-Some-Composition.field-0-is) x
    c.args.tree.now.levels.items c.count_below.result c.start_at-start.result c.number_from.result _ _ c.requires.is_tree.counted c.requires.within (c.count_below.ensures ∙ ap (λ l. count_in l c.args.depth c.in-Some-Composition.held) c.as_slice.ensures.value) c.if-count_below-eq0.false
    c.start_at-start.ensures c.number_from.ensures (c.in_ok-list_nodes-in-Some-Composition.ensures x)

pub list_nodes-loop-prototype-init : goal.list_nodes-loop-prototype-init
list_nodes-loop-prototype-init t c = λ x. nodes_begin c.args.tree.now.d.now (c.args.depth - 1) c.args.composition c.args.first (record { depth = c.args.depth - 1; composition = c.args.composition; first = c.args.first }) x c.args.nodes.now.items c.push.new.self.items c.in_ok-push.ensures.items

pub list_nodes-loop-prototype-preserved : goal.list_nodes-loop-prototype-preserved
list_nodes-loop-prototype-preserved t c = λ x. nodes_more c.args.tree.now.d.now (c.args.depth - 1) c.args.composition c.args.first c.loop-prototype.prototype x _ _ _ _ (c.in_ok-list_node.ensures x) (c.loop-prototype.invariant x)

pub list_nodes-returns : goal.list_nodes-returns
list_nodes-returns t c = λ x. let deep : suc (c.args.depth - 1) ≡ c.args.depth = omega arith in
    nodes_all c.args.tree.now.d.now c.args.depth (c.args.depth - 1) c.args.composition c.args.first (length c.prototypes_of-prototype-end.result.now) c.loop-prototype.prototype x _ _ deep (ap length c.prototypes_of-prototype-end.ensures) c.loop-prototype-test.false (c.loop-prototype.invariant x)
