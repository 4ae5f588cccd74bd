use Rattle.std.proofs.Common.{◌≡◌, ◌<◌, inl, inr, length, get_or, sym, ◌∙◌, ap, subst, arith, Some}
use Rattle.bus_semantics.specs.Common.{slice_get, cases_lt, same_Some, slice_get-get_or}
use Rattle.core_runtime.specs.Watching.{IsAt}
use Rattle.core_runtime.proofs.Wakes.{are_same, are_then, there_still, up_still}
use Rattle.core_runtime.proofs.callers.rouse_events.Goals as goal

pub rouse_event-requires : goal.rouse_event-requires
rouse_event-requires c = record { there = λ e s at. there_still c.args.awake.now.items c.loop-event.awake.items s c.loop-event.invariant.woken (c.requires.there e s at) }

pub loop-event-init : goal.loop-event-init
loop-event-init c = record { woken = are_same c.args.awake.now.items; up = λ k e s below found at. absurd (omega arith) }

pub loop-event-preserved : goal.loop-event-preserved
loop-event-preserved c = record {
  woken = are_then c.args.awake.now.items c.loop-event.awake.items c.rouse_event.new.awake.items c.loop-event.invariant.woken c.rouse_event.ensures.woken;
  up = λ k e s below found at. elim (cases_lt k c.loop-event.event-index) [
    | inl before ↦
        up_still c.loop-event.awake.items c.rouse_event.new.awake.items s c.rouse_event.ensures.woken
        (there_still c.args.awake.now.items c.loop-event.awake.items s c.loop-event.invariant.woken (c.requires.there e s at)) (c.loop-event.invariant.up k e s before found at)
    | inr after ↦
        let place : k ≡ c.loop-event.event-index = omega arith in
        let is = slice_get-get_or c.args.events.now c.loop-event.event-index 0 c.loop-event-test.true in
        let same : get_or c.args.events.now c.loop-event.event-index 0 ≡ e = same_Some _ _ (sym is ∙ sym (ap (slice_get c.args.events.now) place) ∙ found) in
        c.rouse_event.ensures.up s (subst (λ n. IsAt c.args.seats.now n s) (sym same) at)
  ];
}

pub returns-clause-up : goal.returns-clause-up
returns-clause-up c = λ e s contains at.
    let within : contains.0 < length c.args.events.now = contains.1 in
    c.loop-event.invariant.up contains.0 e s (omega arith) (slice_get-get_or c.args.events.now contains.0 e within ∙ ap (λ n. Some n) contains.2) at
