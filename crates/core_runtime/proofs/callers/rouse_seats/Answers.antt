use Rattle.std.proofs.Common.{◌≡◌, ◌<◌, inl, inr, length, get_or, sym, ◌∙◌, ap, subst, arith}
use Rattle.bus_semantics.specs.Common.{slice_get, cases_lt, same_Some, slice_get-get_or, slice_get_within}
use Rattle.core_runtime.specs.Common.{Seat, IsUp}
use Rattle.core_runtime.proofs.Wakes.{are_same, are_then, there_still, up_still}
use Rattle.core_runtime.proofs.callers.rouse_seats.Goals as goal

abbrev nowhere : Seat
nowhere = record { core = 0; slot = 0; place = 0 }

pub rouse_seat-requires : goal.rouse_seat-requires
rouse_seat-requires c =
    let i = c.loop-seat.seat-index in
    let s = get_or c.args.seats.now i nowhere in
    record { there = there_still c.args.awake.now.items c.loop-seat.awake.items s c.loop-seat.invariant.woken (c.requires.there i s (slice_get-get_or c.args.seats.now i nowhere c.loop-seat-test.true)) }

pub loop-seat-init : goal.loop-seat-init
loop-seat-init c = record { woken = are_same c.args.awake.now.items; up = λ k s below found. absurd (omega arith) }

pub loop-seat-preserved : goal.loop-seat-preserved
loop-seat-preserved c = record {
  woken = are_then c.args.awake.now.items c.loop-seat.awake.items c.rouse_seat.new.awake.items c.loop-seat.invariant.woken c.rouse_seat.ensures.woken;
  up = λ k s below found. elim (cases_lt k c.loop-seat.seat-index) [
    | inl before ↦
        up_still c.loop-seat.awake.items c.rouse_seat.new.awake.items s c.rouse_seat.ensures.woken
        (there_still c.args.awake.now.items c.loop-seat.awake.items s c.loop-seat.invariant.woken (c.requires.there k s found)) (c.loop-seat.invariant.up k s before found)
    | inr after ↦
        let at : k ≡ c.loop-seat.seat-index = omega arith in
        let is = slice_get-get_or c.args.seats.now c.loop-seat.seat-index nowhere c.loop-seat-test.true in
        let same : get_or c.args.seats.now c.loop-seat.seat-index nowhere ≡ s = same_Some _ _ (sym is ∙ sym (ap (slice_get c.args.seats.now) at) ∙ found) in
        subst (IsUp c.rouse_seat.new.awake.items) same c.rouse_seat.ensures.up
  ];
}

pub returns-clause-up : goal.returns-clause-up
returns-clause-up c = λ k s found.
    let within : k < length c.args.seats.now = slice_get_within c.args.seats.now k s found in
    c.loop-seat.invariant.up k s (omega arith) found
