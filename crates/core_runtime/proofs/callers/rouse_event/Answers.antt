use Rattle.std.proofs.Common.{◌≡◌, sym, ◌∙◌, ap}
use Rattle.bus_semantics.specs.Common.{same_Some, slice_get_past, Global, slice_get}
use Rattle.std.specs.Prelude.{Vec}
use Rattle.core_runtime.specs.declared.seats.Seat.{Seat}
use Rattle.latches.proofs.Places.{found_at}
use Rattle.core_runtime.proofs.Wakes.{are_same}
use Rattle.core_runtime.proofs.callers.rouse_event.Goals as goal

pub rouse_seats-requires : goal.rouse_seats-requires
rouse_seats-requires c = record {
  there = λ k s is.
      let row = c.in-Some.row.now in
      let found = found_at c.args.seats.now c.args.event row c.in-Some.ensures.lookup.3.0 c.in-Some.ensures.lookup.1 in
      c.requires.there c.args.event s (record { row = row; at = k; row_is = found; is = ap (λ xs. slice_get xs k) (sym c.as_slice.ensures.value) ∙ is });
}

pub returns-in-Some-clause-up : goal.returns-in-Some-clause-up
returns-in-Some-clause-up c = λ s at.
    let row = c.in-Some.row.now in
    let found = found_at c.args.seats.now c.args.event row c.in-Some.ensures.lookup.3.0 c.in-Some.ensures.lookup.1 in
    let same : at.row ≡ row = same_Some _ _ (sym at.row_is ∙ found) in
    c.rouse_seats.ensures.up at.at s (ap (λ xs. slice_get xs at.at) (c.as_slice.ensures.value ∙ ap (λ (v : Vec Seat Global). v.items) (sym same)) ∙ at.is)

pub returns-in_default-clause-woken : goal.returns-in_default-clause-woken
returns-in_default-clause-woken c = are_same c.args.awake.now.items

pub returns-in_default-clause-up : goal.returns-in_default-clause-up
returns-in_default-clause-up c = λ s at.
    let none = slice_get_past c.args.seats.now c.args.event c.in_default.ensures.lookup.3 in
    absurd (cc (sym none ∙ at.row_is))
