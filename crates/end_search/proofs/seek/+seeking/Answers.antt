use Rattle.std.proofs.Common.{◌≡◌, ◌∙◌, ◌-◌, suc, get_or, true, false, true≢false, ap, sym, subst, refl, arith, Some}
use Rattle.std.proofs.lemmas.Result.{IfOk-weaker}
use Rattle.description_types.specs.declared.description.PrototypeType.TheVariants.{Component, Composition}
use Rattle.composition_tables.specs.Counts.{count_in}
use Rattle.composition_tables.specs.Ends.{ends}
use Rattle.description_types.specs.Growing.{AnyOf}
use Rattle.description_types.specs.Members.{Among}
use Rattle.end_search.specs.Wishes.{IsBelowPrototype, IsEnd, IsInnerEnd, Sought}
use Rattle.composition_tables.proofs.Noding.{type_declared}
use Rattle.end_search.proofs.Wishing.{cut_either, known_anew, sought_none, sought_begin, sought_more, sought_full, sought_all, sought_inside, sought_dead, sought_known, sought_missing, sought_below}
use Rattle.end_search.proofs.seek.+seeking.Goals as goal

pub seek_inner-start_of-start-requires-clause-declared : goal.seek_inner-start_of-start-requires-clause-declared
seek_inner-start_of-start-requires-clause-declared t c = type_declared c.args.tree.now.d.now c.args.composition c.args.prototype _ (sym c.type_in.ensures ∙ c.in-Some-Component.is)

pub seek_inner-start_of-start-requires-in-Some-Composition-clause-declared : goal.seek_inner-start_of-start-requires-in-Some-Composition-clause-declared
seek_inner-start_of-start-requires-in-Some-Composition-clause-declared t c = type_declared c.args.tree.now.d.now c.args.composition c.args.prototype _ (sym c.type_in.ensures ∙ c.in-Some-Composition.is)

pub seek_inner-returns-in_ok-is_cut-in-Some-Component-clause-found : goal.seek_inner-returns-in_ok-is_cut-in-Some-Component-clause-found
seek_inner-returns-in_ok-is_cut-in-Some-Component-clause-found t c = sought_inside c.args.tree.now.d.now c.args.wish.now.wanted c.args.depth c.args.composition c.args.prototype c.start_of-start.result (Component c.in-Some-Component.component)
    (sym c.type_in.ensures ∙ c.in-Some-Component.is ∙ ap (λ u. Some u) c.in-Some-Component.field-0-is) c.start_of-start.ensures c.args.ports.now c.args.found.now.keys c.note_ports.new.found.keys c.in_ok-is_cut-in-Some-Component.is_cut c.in_ok-is_cut-in-Some-Component.ensures.found

pub seek_inner-returns-then-count_below-eq0-clause-found : goal.seek_inner-returns-then-count_below-eq0-clause-found
seek_inner-returns-then-count_below-eq0-clause-found t c = sought_dead c.args.tree.now.d.now c.args.wish.now.wanted c.args.depth c.args.composition c.args.prototype c.in-Some-Composition.held
    (sym c.type_in.ensures ∙ c.in-Some-Composition.is ∙ ap (λ u. Some u) c.in-Some-Composition.field-0-is) c.args.ports.now c.args.found.now.keys _ c.args.tree.now.levels.items c.count_below.result c.requires.is_tree.counted c.requires.within
    (c.count_below.ensures ∙ ap (λ l. count_in l c.args.depth c.in-Some-Composition.held) c.as_slice.ensures.value) c.if-count_below-eq0.true

pub seek_inner-returns-in_ok-is_cut-in-Some-Composition-clause-found : goal.seek_inner-returns-in_ok-is_cut-in-Some-Composition-clause-found
seek_inner-returns-in_ok-is_cut-in-Some-Composition-clause-found t c = subst (Sought (AnyOf (IsInnerEnd c.args.tree.now.d.now c.args.wish.now.wanted c.args.depth c.args.composition c.args.prototype) c.args.ports.now) c.args.found.now.keys c.note_all_moved.new.found.keys) (sym c.either.ensures)
    (sought_known c.args.tree.now.d.now c.args.wish.now.wanted c.args.depth c.args.composition c.args.prototype c.in-Some-Composition.held
    (sym c.type_in.ensures ∙ c.in-Some-Composition.is ∙ ap (λ u. Some u) c.in-Some-Composition.field-0-is) c.args.ports.now c.start_of-start-in-Some-Composition.result c.seek_known.new.known c.as_slice-in-Some-Composition.result.now c.args.found.now.keys c.note_all_moved.new.found.keys
    c.in_ok-is_cut-in-Some-Composition.is_cut c.start_of-start-in-Some-Composition.ensures c.in_ok-seek_known-in-Some-Composition.ensures.depth c.in_ok-seek_known-in-Some-Composition.ensures.composition c.in_ok-seek_known-in-Some-Composition.ensures.ports c.as_slice-in-Some-Composition.ensures.keys c.in_ok-seek_known-in-Some-Composition.ensures.known c.in_ok-is_cut-in-Some-Composition.ensures.found)

pub seek_inner-returns-in-None-clause-found : goal.seek_inner-returns-in-None-clause-found
seek_inner-returns-in-None-clause-found t c = sought_missing c.args.tree.now.d.now c.args.wish.now.wanted c.args.depth c.args.composition c.args.prototype c.args.ports.now c.args.found.now.keys _ (sym c.type_in.ensures ∙ c.in-None.is)

pub seek-returns-then-depth-eq0-clause-found : goal.seek-returns-then-depth-eq0-clause-found
seek-returns-then-depth-eq0-clause-found t c = sought_none (AnyOf (IsEnd c.args.tree.now.d.now c.args.wish.now.wanted c.args.depth (Composition c.args.composition) 0) c.args.ports.now) c.args.found.now.keys _
    (λ x a. subst (λ n. Among x (ends c.args.tree.now.d.now n (Composition c.args.composition) 0 a.0)) c.if-depth-eq0.true a.2.0)

pub seek_prototypes-loop-prototype-init : goal.seek_prototypes-loop-prototype-init
seek_prototypes-loop-prototype-init t c = record {
  known = c.requires.known;
  cut = c.requires.cut;
  sought = sought_begin (IsBelowPrototype c.args.tree.now.d.now c.args.wish.now.wanted c.args.depth c.args.composition c.args.inner.now) c.as_slice-prototype-items.result.now c.args.found.now.keys;
}

pub seek_prototypes-loop-prototype-preserved : goal.seek_prototypes-loop-prototype-preserved
seek_prototypes-loop-prototype-preserved t c = record {
  known = c.in_ok-seek_inner.ensures.known;
  cut = c.in_ok-seek_inner.ensures.cut;
  sought = sought_more (IsBelowPrototype c.args.tree.now.d.now c.args.wish.now.wanted c.args.depth c.args.composition c.args.inner.now) c.as_slice-prototype-items.result.now c.loop-prototype.prototype-index 0 c.args.found.now.keys c.loop-prototype.found.keys c.seek_inner.new.found.keys c.in_ok-seek_inner.field-0 c.loop-prototype-test.true c.loop-prototype.invariant.sought
      (subst (λ l. Sought (AnyOf (IsInnerEnd c.args.tree.now.d.now c.args.wish.now.wanted c.args.depth c.args.composition (get_or c.as_slice-prototype-items.result.now c.loop-prototype.prototype-index 0)) l) c.loop-prototype.found.keys c.seek_inner.new.found.keys c.in_ok-seek_inner.field-0) c.ports_of_prototype-ports.ensures c.in_ok-seek_inner.ensures.found) c.if-branch.false;
}

pub seek_prototypes-returns-then-branch-clause-found : goal.seek_prototypes-returns-then-branch-clause-found
seek_prototypes-returns-then-branch-clause-found t c = subst (λ l. Sought (AnyOf (IsBelowPrototype c.args.tree.now.d.now c.args.wish.now.wanted c.args.depth c.args.composition c.args.inner.now) l) c.args.found.now.keys c.seek_inner.new.found.keys true) c.as_slice-prototype-items.ensures.keys
    (sought_full (IsBelowPrototype c.args.tree.now.d.now c.args.wish.now.wanted c.args.depth c.args.composition c.args.inner.now) c.as_slice-prototype-items.result.now c.loop-prototype.prototype-index 0 c.args.found.now.keys c.loop-prototype.found.keys c.seek_inner.new.found.keys c.in_ok-seek_inner.field-0 c.loop-prototype-test.true c.loop-prototype.invariant.sought
    (subst (λ l. Sought (AnyOf (IsInnerEnd c.args.tree.now.d.now c.args.wish.now.wanted c.args.depth c.args.composition (get_or c.as_slice-prototype-items.result.now c.loop-prototype.prototype-index 0)) l) c.loop-prototype.found.keys c.seek_inner.new.found.keys c.in_ok-seek_inner.field-0) c.ports_of_prototype-ports.ensures c.in_ok-seek_inner.ensures.found))

pub seek_prototypes-returns-clause-found : goal.seek_prototypes-returns-clause-found
seek_prototypes-returns-clause-found t c = subst (λ l. Sought (AnyOf (IsBelowPrototype c.args.tree.now.d.now c.args.wish.now.wanted c.args.depth c.args.composition c.args.inner.now) l) c.args.found.now.keys c.loop-prototype.found.keys false) c.as_slice-prototype-items.ensures.keys
    (sought_all (IsBelowPrototype c.args.tree.now.d.now c.args.wish.now.wanted c.args.depth c.args.composition c.args.inner.now) c.as_slice-prototype-items.result.now c.loop-prototype.prototype-index c.args.found.now.keys c.loop-prototype.found.keys c.loop-prototype-test.false c.loop-prototype.invariant.sought)

pub seek-seek_prototypes-is_cut-requires : goal.seek-seek_prototypes-is_cut-requires
seek-seek_prototypes-is_cut-requires t c = (
  omega arith,
  (
    c.requires.is_tree,
    (
      omega (arith, c.requires.within),
      (
        c.nothing_known-known.ensures.known c.args.tree.now.d.now c.args.wish.now.wanted,
        (λ is. absurd (true≢false (sym is ∙ c.nothing_known-known.ensures.whole))),
      ),
    ),
  ),
)

pub seek-returns-clause-found : goal.seek-returns-clause-found
seek-returns-clause-found t c = let deep : suc (c.args.depth - 1) ≡ c.args.depth = omega arith in
    IfOk-weaker c.seek_prototypes-is_cut.result (Sought (AnyOf (IsBelowPrototype c.args.tree.now.d.now c.args.wish.now.wanted (c.args.depth - 1) c.args.composition c.in_ok-inner.inner) c.in_ok-inner.inner.prototypes.keys) c.args.found.now.keys c.seek_prototypes-is_cut.new.found.keys)
    (Sought (AnyOf (IsEnd c.args.tree.now.d.now c.args.wish.now.wanted c.args.depth (Composition c.args.composition) 0) c.args.ports.now) c.args.found.now.keys c.seek_prototypes-is_cut.new.found.keys)
    (λ is_cut. sought_below c.args.tree.now.d.now c.args.wish.now.wanted (c.args.depth - 1) c.args.depth c.args.composition c.args.ports.now c.in_ok-inner.inner.prototypes.keys c.in_ok-inner.inner c.args.found.now.keys c.seek_prototypes-is_cut.new.found.keys is_cut
    deep refl c.in_ok-inner.ensures) c.seek_prototypes-is_cut.ensures.found

pub seek_known-returns-clause-known : goal.seek_known-returns-clause-known
seek_known-returns-clause-known t c = known_anew c.args.tree.now.d.now c.args.wish.now.wanted c.args.depth c.args.composition c.args.ports.now c.begin_anew.new.known _ _
    c.in_ok-begin_anew.ensures.depth c.in_ok-begin_anew.ensures.composition c.in_ok-begin_anew.ensures.ports c.in_ok-begin_anew.ensures.ends c.in_ok-known.ensures.found

pub seek_known-returns-then-is_known-clause-depth : goal.seek_known-returns-then-is_known-clause-depth
seek_known-returns-then-is_known-clause-depth t c = (c.is_known.ensures c.if-is_known.true).0

pub seek_known-returns-then-is_known-clause-composition : goal.seek_known-returns-then-is_known-clause-composition
seek_known-returns-then-is_known-clause-composition t c = (c.is_known.ensures c.if-is_known.true).1

pub seek_known-returns-then-is_known-clause-ports : goal.seek_known-returns-then-is_known-clause-ports
seek_known-returns-then-is_known-clause-ports t c = (c.is_known.ensures c.if-is_known.true).2

pub seek_inner-returns-in_ok-is_cut-in-Some-Composition-clause-answer : goal.seek_inner-returns-in_ok-is_cut-in-Some-Composition-clause-answer
seek_inner-returns-in_ok-is_cut-in-Some-Composition-clause-answer t c = cut_either c.args.wish.now.limit c.in_ok-is_cut-in-Some-Composition.is_cut c.seek_known.new.known.is_cut c.either.result c.either.ensures
    c.in_ok-is_cut-in-Some-Composition.ensures.cut c.in_ok-seek_known-in-Some-Composition.ensures.cut
