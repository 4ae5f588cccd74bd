use Rattle.std.proofs.Common.{◌≡◌, ℕ, sym, ◌∙◌, ap, Some}
use Rattle.bus_semantics.specs.Common.{slice_get}
use Rattle.core_runtime.specs.declared.seats.Seat.{Seat}
use Rattle.core_runtime.specs.Watching.{IsAt}
use Rattle.latches.proofs.Places.{found_at}
use Rattle.core_runtime.proofs.Asleep.{over_at}
use Rattle.core_runtime.proofs.resting.rest_event.Goals as goal

pub rest_first-requires : goal.rest_first-requires
rest_first-requires c = record {
  there = λ k s is.
      let row = c.in-Some.seats.now in
      let found = found_at c.deref.result.now c.args.event row c.in-Some.ensures.lookup.3.0 c.in-Some.ensures.lookup.1 in
      c.requires.there c.args.event s (record {
        row = row;
        at = k;
        row_is = ap (λ rs. slice_get rs c.args.event) (sym c.deref.ensures.value) ∙ found;
        is = ap (λ xs. slice_get xs k) (sym c.as_slice.ensures.value) ∙ is;
      });
}

pub returns-in-Some : goal.returns-in-Some
returns-in-Some c = λ p t objects touched cores held watch.
    let row = c.in-Some.seats.now in
    let found = found_at c.deref.result.now c.args.event row c.in-Some.ensures.lookup.3.0 c.in-Some.ensures.lookup.1 in
    let at : (k : ℕ) (s : Seat) → slice_get c.as_slice.result.now k ≡ Some s → IsAt c.args.w.now.seats.items c.args.event s = λ k s is. record {
      row = row;
      at = k;
      row_is = ap (λ rs. slice_get rs c.args.event) (sym c.deref.ensures.value) ∙ found;
      is = ap (λ xs. slice_get xs k) (sym c.as_slice.ensures.value) ∙ is;
    } in
    record {
      awake = c.rest_first.ensures.watched p t objects cores (λ k s is. over_at p objects cores c.args.w.now.seats.items c.args.event s watch.seated (at k s is) held) watch.awake;
      waiting = c.rest_first.ensures.waiting p t objects touched cores watch.waiting;
      seated = watch.seated;
      behind = watch.behind;
      starters = watch.starters;
    }
