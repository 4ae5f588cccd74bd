use Rattle.std.proofs.Common.{◌∙◌, sym, subst, arith, length}
use Rattle.place_set.specs.Places as places
use Rattle.mode_machine.proofs.Watching.{found_first, found_next, found_none}
use Rattle.mode_machine.proofs.disabling.first_held.Goals as goal

pub returns-then-has_mode-clause-next : goal.returns-then-has_mode-clause-next
returns-then-has_mode-clause-next c =
    let l = c.loop-at in
    let first = subst (λ running. places.IsFirst running l.behind (length running) c.in-Some.at) l.invariant.same c.in-Some.ensures.next in
    found_first c.args.modes.now c.args.running.now c.args.mode c.requires c.args.from l.behind l.invariant.begun l.invariant.none c.in-Some.at c.index-modes-at.result first c.index-modes-at.is (sym c.has_mode.ensures ∙ c.if-has_mode.true)

pub loop-at-preserved : goal.loop-at-preserved
loop-at-preserved c =
    let l = c.loop-at in
    let first = subst (λ running. places.IsFirst running l.behind (length running) c.in-Some.at) l.invariant.same c.in-Some.ensures.next in
    let past = first.behind in
    record {
      same = c.next.ensures.same ∙ l.invariant.same;
      begun = omega (arith, l.invariant.begun, past);
      none = found_next c.args.modes.now c.args.running.now c.args.mode c.requires c.args.from l.behind l.invariant.begun l.invariant.none c.in-Some.at c.index-modes-at.result first c.index-modes-at.is (sym c.has_mode.ensures ∙ c.if-has_mode.false);
    }

pub returns-clause-next : goal.returns-clause-next
returns-clause-next c =
    let l = c.loop-at in
    let rest = subst (λ running. places.NoneBetween running l.behind (length running)) l.invariant.same c.in_default.ensures.next in
    found_none c.args.modes.now c.args.running.now c.args.mode c.requires c.args.from l.behind l.invariant.begun l.invariant.none rest
