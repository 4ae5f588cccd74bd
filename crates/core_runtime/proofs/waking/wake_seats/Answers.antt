use Rattle.std.proofs.Common.{◌≡◌, ◌<◌, inl, inr, length, get_or, sym, ◌∙◌, ap, subst, arith}
use Rattle.bus_semantics.specs.Common.{slice_get, cases_lt, same_Some, slice_get-get_or, slice_get_within}
use Rattle.port_objects.specs.Objects.{kept_of}
use Rattle.core_runtime.specs.Common.{Seat, IsSeen}
use Rattle.core_runtime.proofs.Wakes.{are_same, are_then, there_still, seen_still}
use Rattle.core_runtime.proofs.waking.wake_seats.Goals as goal

abbrev nowhere : Seat
nowhere = record { core = 0; slot = 0; place = 0 }

pub wake_seat-requires : goal.wake_seat-requires
wake_seat-requires c =
    let i = c.loop-seat.seat-index in
    let s = get_or c.args.seats.now i nowhere in
    record { there = there_still c.args.awake.now.items c.loop-seat.awake.items s c.loop-seat.invariant.woken (c.requires.there i s (slice_get-get_or c.args.seats.now i nowhere c.loop-seat-test.true)) }

pub loop-seat-init : goal.loop-seat-init
loop-seat-init c = record { woken = are_same c.args.awake.now.items; seen = λ k s below found. absurd (omega arith) }

pub loop-seat-preserved : goal.loop-seat-preserved
loop-seat-preserved c = record {
  woken = are_then c.args.awake.now.items c.loop-seat.awake.items c.wake_seat.new.awake.items c.loop-seat.invariant.woken c.wake_seat.ensures.woken;
  seen = λ k s below found. elim (cases_lt k c.loop-seat.seat-index) [
    | inl before ↦
        seen_still (kept_of c.args.object.now) c.loop-seat.awake.items c.wake_seat.new.awake.items c.args.event s c.wake_seat.ensures.woken
        (there_still c.args.awake.now.items c.loop-seat.awake.items s c.loop-seat.invariant.woken (c.requires.there k s found)) (c.loop-seat.invariant.seen k s before found)
    | inr after ↦
        let at : k ≡ c.loop-seat.seat-index = omega arith in
        let is = slice_get-get_or c.args.seats.now c.loop-seat.seat-index nowhere c.loop-seat-test.true in
        let same : get_or c.args.seats.now c.loop-seat.seat-index nowhere ≡ s = same_Some _ _ (sym is ∙ sym (ap (slice_get c.args.seats.now) at) ∙ found) in
        subst (IsSeen (kept_of c.args.object.now) c.wake_seat.new.awake.items c.args.event) same c.wake_seat.ensures.seen
  ];
}

pub returns-clause-seen : goal.returns-clause-seen
returns-clause-seen c = λ k s found.
    let within : k < length c.args.seats.now = slice_get_within c.args.seats.now k s found in
    c.loop-seat.invariant.seen k s (omega arith) found
