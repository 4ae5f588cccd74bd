use Rattle.std.proofs.Common.{◌≡◌, ◌++◌, ◌∷◌, [], refl, sym, ◌∙◌, ap, subst, arith, List, length, Some}
use Rattle.bus_semantics.specs.Common.{length_push, into_iter_items}
use Rattle.core_turn.specs.Cores.{CoreState}
use Rattle.cross_core_table.specs.declared.seats.CoreSeat.{CoreSeat}
use Rattle.live_lanes.specs.declared.lanes.Lane.{Lane}
use Rattle.live_lanes.specs.declared.workers.Worker.{Worker}
use Rattle.live_lanes.specs.declared.workers.Worker.TheVariants.{Core}
use Rattle.live_lanes.proofs.Seated.{Seated, seated_on}
use Rattle.live_lanes.proofs.seating.seat_all.Goals as goal

pub loop-core-preserved : goal.loop-core-preserved
loop-core-preserved c =
    let at = c.loop-core in
    let was = at.invariant in
    let x : CoreState = c.in-Some.core in
    let s : CoreSeat = c.in-Some-next.seat in
    let rest : List CoreState = into_iter_items c.next.new.self in
    let left : List CoreSeat = into_iter_items c.next-in-loop-core.new.self in
    let steps : into_iter_items at.core-iterator ≡ x ∷ rest = c.in-Some.ensures.steps.0 in
    let gone = c.in-Some.ensures.steps.1 in
    let sat : into_iter_items at.seats ≡ s ∷ left = c.in-Some-next.ensures.cases.0 in
    let fewer = c.in-Some-next.ensures.cases.1 in
    let parked = c.in-Some-next-2.ensures.cases.0 in
    let parkers = c.in-Some-next-2.ensures.cases.1 in
    let lane : Lane = record { core = x; seat = Some s; parker = c.in-Some-next-2.parker } in
    let short = ap (λ (l : List CoreState). length l) steps in
    let shorter = ap (λ (l : List CoreSeat). length l) sat in
    let parks = ap length parked in
    let longer = ap (λ (l : List Worker). length l) c.push_reserved.ensures.items ∙ length_push at.workers.items (Core lane) in
    record {
      seated = subst (λ (ws : List Worker). Seated ws rest left (into_iter_items c.into_iter-core-iterator.result) (into_iter_items c.into_iter-seats.result)) (sym c.push_reserved.ensures.items)
          (seated_on at.workers.items x rest (into_iter_items at.core-iterator) s left (into_iter_items at.seats) (into_iter_items c.into_iter-core-iterator.result) (into_iter_items c.into_iter-seats.result) lane steps sat refl refl was.seated);
      left = omega (arith, was.left, gone, short);
      seats_left = omega (arith, was.seats_left, fewer, shorter);
      parkers_left = omega (arith, was.parkers_left, parkers, parks);
      seats_match = omega (arith, was.seats_match, short, shorter);
      parkers_match = omega (arith, was.parkers_match, short, parks);
      space = omega (arith, was.space, longer, short, c.push_reserved.ensures.capacity);
      same = c.push_reserved.ensures.capacity ∙ was.same;
    }
