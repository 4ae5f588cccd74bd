use Rattle.std.proofs.Common.{◌≡◌, ◌<◌, inl, inr, refl, length, get_or, sym, ◌∙◌, ap, subst, arith, Some}
use Rattle.bus_semantics.specs.Common.{slice_get, cases_lt, same_Some, slice_get-get_or}
use Rattle.port_objects.specs.Objects.{kept_of}
use Rattle.core_runtime.specs.Watching.{IsAt, IsSeen}
use Rattle.core_runtime.proofs.Wakes.{are_same, are_then, there_still, seen_still}
use Rattle.core_runtime.proofs.waking.wake_events.Goals as goal

pub wake_event-requires : goal.wake_event-requires
wake_event-requires c = record {
  there = λ e s at.
      there_still c.args.w.now.awake.items c.loop-event.w.awake.items s c.loop-event.invariant.woken (c.requires.there e s (subst (λ (v : _). IsAt v.items e s) c.loop-event.invariant.seats at));
}

pub loop-event-init : goal.loop-event-init
loop-event-init c = record { seats = refl; starters = refl; woken = are_same c.args.w.now.awake.items; seen = λ k e s below found at. absurd (omega arith) }

pub loop-event-preserved : goal.loop-event-preserved
loop-event-preserved c = record {
  seats = c.wake_event.ensures.seats ∙ c.loop-event.invariant.seats;
  starters = c.wake_event.ensures.starters ∙ c.loop-event.invariant.starters;
  woken = are_then c.args.w.now.awake.items c.loop-event.w.awake.items c.wake_event.new.w.awake.items c.loop-event.invariant.woken c.wake_event.ensures.woken;
  seen = λ k e s below found at. elim (cases_lt k c.loop-event.event-index) [
    | inl before ↦
        seen_still (kept_of c.args.object.now) c.loop-event.w.awake.items c.wake_event.new.w.awake.items e s c.wake_event.ensures.woken
        (there_still c.args.w.now.awake.items c.loop-event.w.awake.items s c.loop-event.invariant.woken (c.requires.there e s at)) (c.loop-event.invariant.seen k e s before found at)
    | inr after ↦
        let place : k ≡ c.loop-event.event-index = omega arith in
        let is = slice_get-get_or c.args.events.now c.loop-event.event-index 0 c.loop-event-test.true in
        let same : get_or c.args.events.now c.loop-event.event-index 0 ≡ e = same_Some _ _ (sym is ∙ sym (ap (slice_get c.args.events.now) place) ∙ found) in
        subst (λ n. IsSeen (kept_of c.args.object.now) c.wake_event.new.w.awake.items n s) same
        (c.wake_event.ensures.seen s (subst (λ n. IsAt c.loop-event.w.seats.items n s) (sym same) (subst (λ (v : _). IsAt v.items e s) (sym c.loop-event.invariant.seats) at)))
  ];
}

pub returns-clause-seen : goal.returns-clause-seen
returns-clause-seen c = λ e s contains at.
    let within : contains.0 < length c.args.events.now = contains.1 in
    c.loop-event.invariant.seen contains.0 e s (omega arith) (slice_get-get_or c.args.events.now contains.0 e within ∙ ap (λ n. Some n) contains.2) at
