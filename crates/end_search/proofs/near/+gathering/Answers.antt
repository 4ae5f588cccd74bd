use Rattle.std.proofs.Common.{◌∙◌, ◌+◌, ◌-◌, [], ◌∷◌, true, ap, sym, arith, Some}
use Rattle.std.proofs.lemmas.Result.{on_ok_weaker}
use Rattle.description_types.specs.declared.description.InnerPort.{InnerPort}
use Rattle.description_types.specs.declared.description.PrototypeType.TheVariants.{Component, Composition}
use Rattle.composition_tables.specs.Counts.{count_in}
use Rattle.end_search.specs.Wishes.{IsInnerEnd}
use Rattle.composition_tables.proofs.Noding.{type_declared}
use Rattle.end_search.proofs.Nearing.{gathered}
use Rattle.end_search.proofs.Wishing.{sought_begin, sought_more, sought_full, sought_all, sought_inner, sought_single, sought_dead, sought_missing, sought_ports}
use Rattle.end_search.proofs.near.+gathering.Goals as goal

pub gather_inner-start_of-start-requires-clause-declared : goal.gather_inner-start_of-start-requires-clause-declared
gather_inner-start_of-start-requires-clause-declared t c = type_declared c.args.tree.now.d.now c.args.composition c.args.inner.prototype _ (sym c.type_in.ensures ∙ c.in-Some-Component.is)

pub gather_inner-start_of-start-requires-in-Some-Composition-clause-declared : goal.gather_inner-start_of-start-requires-in-Some-Composition-clause-declared
gather_inner-start_of-start-requires-in-Some-Composition-clause-declared t c = type_declared c.args.tree.now.d.now c.args.composition c.args.inner.prototype _ (sym c.type_in.ensures ∙ c.in-Some-Composition.is)

pub gather_inner-returns-in_ok-is_cut-in-Some-Component-clause-found : goal.gather_inner-returns-in_ok-is_cut-in-Some-Component-clause-found
gather_inner-returns-in_ok-is_cut-in-Some-Component-clause-found t c = sought_inner c.args.tree.now.d.now c.args.wish.now.wanted c.args.depth c.args.composition c.args.inner.prototype c.start_of-start.result (Component c.in-Some-Component.component)
    (sym c.type_in.ensures ∙ c.in-Some-Component.is ∙ ap (λ u. Some u) c.in-Some-Component.field-0-is) c.start_of-start.ensures c.args.inner.port c.args.found.now.keys c.note_port.new.found.keys c.in_ok-is_cut-in-Some-Component.is_cut c.in_ok-is_cut-in-Some-Component.ensures.found

pub gather_inner-returns-then-count_below-eq0-clause-found : goal.gather_inner-returns-then-count_below-eq0-clause-found
gather_inner-returns-then-count_below-eq0-clause-found t c = sought_single (IsInnerEnd c.args.tree.now.d.now c.args.wish.now.wanted c.args.depth c.args.composition c.args.inner.prototype) c.args.inner.port c.args.found.now.keys _ _
    (sought_dead c.args.tree.now.d.now c.args.wish.now.wanted c.args.depth c.args.composition c.args.inner.prototype c.in-Some-Composition.held
    (sym c.type_in.ensures ∙ c.in-Some-Composition.is ∙ ap (λ u. Some u) c.in-Some-Composition.field-0-is) (c.args.inner.port ∷ []) c.args.found.now.keys _ c.args.tree.now.levels.items c.count_below.result c.requires.is_tree.counted c.requires.within
    (c.count_below.ensures ∙ ap (λ l. count_in l c.args.depth c.in-Some-Composition.held) c.as_slice.ensures.value) c.if-count_below-eq0.true)

pub gather_inner-returns-in_ok-is_cut-in-Some-Composition-clause-found : goal.gather_inner-returns-in_ok-is_cut-in-Some-Composition-clause-found
gather_inner-returns-in_ok-is_cut-in-Some-Composition-clause-found t c = sought_inner c.args.tree.now.d.now c.args.wish.now.wanted c.args.depth c.args.composition c.args.inner.prototype c.start_of-start-in-Some-Composition.result (Composition c.in-Some-Composition.held)
    (sym c.type_in.ensures ∙ c.in-Some-Composition.is ∙ ap (λ u. Some u) c.in-Some-Composition.field-0-is) c.start_of-start-in-Some-Composition.ensures c.args.inner.port c.args.found.now.keys c.note_kept.new.found.keys c.in_ok-is_cut-in-Some-Composition.is_cut
    (c.in_ok-is_cut-in-Some-Composition.ensures c.args.tree.now.d.now c.args.wish.now.wanted c.in_ok-keep_port-in-Some-Composition.ensures)

pub gather_inner-returns-in_ok-is_cut-in-Some-Composition-clause-near : goal.gather_inner-returns-in_ok-is_cut-in-Some-Composition-clause-near
gather_inner-returns-in_ok-is_cut-in-Some-Composition-clause-near t c = c.in_ok-keep_port-in-Some-Composition.ensures

pub gather_inner-returns-in-None-clause-found : goal.gather_inner-returns-in-None-clause-found
gather_inner-returns-in-None-clause-found t c = sought_single (IsInnerEnd c.args.tree.now.d.now c.args.wish.now.wanted c.args.depth c.args.composition c.args.inner.prototype) c.args.inner.port c.args.found.now.keys _ _
    (sought_missing c.args.tree.now.d.now c.args.wish.now.wanted c.args.depth c.args.composition c.args.inner.prototype (c.args.inner.port ∷ []) c.args.found.now.keys _ (sym c.type_in.ensures ∙ c.in-None.is))

pub gather-loop-inner-init : goal.gather-loop-inner-init
gather-loop-inner-init t c = record {
  near = c.requires.near;
  sought = sought_begin (λ (inner : InnerPort). IsInnerEnd c.args.tree.now.d.now c.args.wish.now.wanted c.args.depth c.args.composition inner.prototype inner.port) c.inner_ports-inner-items.result.now c.args.found.now.keys;
}

pub gather-loop-inner-preserved : goal.gather-loop-inner-preserved
gather-loop-inner-preserved t c = record {
  near = c.in_ok-gather_inner.ensures.near;
  sought = sought_more (λ (inner : InnerPort). IsInnerEnd c.args.tree.now.d.now c.args.wish.now.wanted c.args.depth c.args.composition inner.prototype inner.port) c.inner_ports-inner-items.result.now c.loop-inner.inner-index (record { prototype = 0; port = 0 })
      c.args.found.now.keys c.loop-inner.found.keys c.gather_inner.new.found.keys c.in_ok-gather_inner.field-0 c.loop-inner-test.true c.loop-inner.invariant.sought c.in_ok-gather_inner.ensures.found c.if-branch.false;
}

pub gather-returns-then-branch-clause-found : goal.gather-returns-then-branch-clause-found
gather-returns-then-branch-clause-found t c = sought_ports c.args.tree.now.d.now c.args.wish.now.wanted c.args.depth (c.args.depth + 1) c.args.composition c.args.port c.inner_ports-inner-items.result.now c.args.found.now.keys c.gather_inner.new.found.keys true
    (omega arith) c.inner_ports-inner-items.ensures
    (sought_full (λ (inner : InnerPort). IsInnerEnd c.args.tree.now.d.now c.args.wish.now.wanted c.args.depth c.args.composition inner.prototype inner.port) c.inner_ports-inner-items.result.now c.loop-inner.inner-index (record { prototype = 0; port = 0 })
    c.args.found.now.keys c.loop-inner.found.keys c.gather_inner.new.found.keys c.in_ok-gather_inner.field-0 c.loop-inner-test.true c.loop-inner.invariant.sought c.in_ok-gather_inner.ensures.found)

pub gather-returns-clause-found : goal.gather-returns-clause-found
gather-returns-clause-found t c = sought_ports c.args.tree.now.d.now c.args.wish.now.wanted c.args.depth (c.args.depth + 1) c.args.composition c.args.port c.inner_ports-inner-items.result.now c.args.found.now.keys c.loop-inner.found.keys _
    (omega arith) c.inner_ports-inner-items.ensures
    (sought_all (λ (inner : InnerPort). IsInnerEnd c.args.tree.now.d.now c.args.wish.now.wanted c.args.depth c.args.composition inner.prototype inner.port) c.inner_ports-inner-items.result.now c.loop-inner.inner-index
    c.args.found.now.keys c.loop-inner.found.keys c.loop-inner-test.false c.loop-inner.invariant.sought)

pub keep_port-returns : goal.keep_port-returns
keep_port-returns t c = on_ok_weaker c.keep_gathered-kept.result (λ keeps. keeps c.args.tree.now.d.now c.args.wish.now.wanted c.in_ok-is_cut.ensures.near
    (λ whole. gathered c.args.tree.now.d.now c.args.wish.now.wanted (c.args.depth - 1 + 1) c.args.depth c.args.composition c.args.port c.new-found.result.keys c.gather.new.found.keys c.as_slice.result.now c.in_ok-is_cut.is_cut
    (omega arith) c.new-found.ensures.empty whole c.as_slice.ensures.keys c.in_ok-is_cut.ensures.found)) c.keep_gathered-kept.ensures
