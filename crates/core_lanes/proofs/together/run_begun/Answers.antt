use Rattle.std.proofs.Common.{◌≡◌, sym, ◌∙◌, ap, subst, arith, List, map, length, Some}
use Rattle.bus_semantics.specs.Common.{slice_get, plan_of}
use Rattle.core_turn.specs.Cores.{CoreState}
use Rattle.cross_core_table.specs.declared.seats.CoreSeat.{CoreSeat}
use Rattle.cross_core_table.specs.Closing.{IsClosed}
use Rattle.cross_core_table.specs.Seats.{AreSeatsOf, made_of}
use Rattle.core_lanes.specs.declared.lanes.Lane.{Lane}
use Rattle.core_lanes.specs.Lanes.{lanes_of, core_in, seats_in, HaveGone}
use Rattle.core_lanes.specs.Together.{HasRun}
use Rattle.core_lanes.proofs.Lists.{lanes_count, written_back}
use Rattle.core_lanes.proofs.Runs.{all_seated, seats_return, has_run}
use Rattle.core_lanes.proofs.together.run_begun.Goals as goal

pub go_all-requires-clause-few : goal.go_all-requires-clause-few
go_all-requires-clause-few g c = λ κs lives.
    let is : c.as_mut_slice.result.now ≡ lanes_of c.args.begun.cores.items c.args.begun.seats.items = c.as_mut_slice.ensures.value ∙ c.seat_all-lanes.ensures in
    let count : length c.as_mut_slice.result.now ≡ length c.args.begun.cores.items = ap (λ (ls : List Lane). length ls) is ∙ lanes_count c.args.begun.cores.items c.args.begun.seats.items in
    let some = c.requires.count.0 in
    let few = c.requires.count.1 in
    (omega (arith, count, some), omega (arith, count, few))

pub go_all-requires-clause-seated : goal.go_all-requires-clause-seated
go_all-requires-clause-seated g c = λ κs lives i l found.
    let is : c.as_mut_slice.result.now ≡ lanes_of c.args.begun.cores.items c.args.begun.seats.items = c.as_mut_slice.ensures.value ∙ c.seat_all-lanes.ensures in
    all_seated (plan_of c.args.p.now) c.requires.ready.0 c.args.t.now c.requires.begun.0 c.args.begun.round c.args.begun.cores.items c.args.begun.seats.items c.requires.begun.1.opened c.requires.ready.1 c.requires.room i l
    (subst (λ (ls : List Lane). slice_get ls i ≡ Some l) is found)

pub part_all-requires-clause-cores : goal.part_all-requires-clause-cores
part_all-requires-clause-cores g c =
    let is : c.as_mut_slice.result.now ≡ lanes_of c.args.begun.cores.items c.args.begun.seats.items = c.as_mut_slice.ensures.value ∙ c.seat_all-lanes.ensures in
    let count : length c.as_mut_slice.result.now ≡ length c.args.begun.cores.items = ap (λ (ls : List Lane). length ls) is ∙ lanes_count c.args.begun.cores.items c.args.begun.seats.items in
    let same : length c.go_all.new.lanes ≡ length c.seat_all-lanes.result.items = c.go_all.ensures.count ∙ ap (λ (ls : List Lane). length ls) c.as_mut_slice.ensures.value in
    let back = written_back c.seat_all-lanes.result.items c.go_all.new.lanes c.seat_all-lanes.result.len same (omega arith) in
    let room = c.requires.begun.1.places.cores.1 in
    (c.requires.begun.1.places.cores.0, omega (arith, ap (λ (ls : List Lane). length ls) back, c.go_all.ensures.count, count, room))

pub part_all-requires-clause-awake : goal.part_all-requires-clause-awake
part_all-requires-clause-awake g c =
    let is : c.as_mut_slice.result.now ≡ lanes_of c.args.begun.cores.items c.args.begun.seats.items = c.as_mut_slice.ensures.value ∙ c.seat_all-lanes.ensures in
    let count : length c.as_mut_slice.result.now ≡ length c.args.begun.cores.items = ap (λ (ls : List Lane). length ls) is ∙ lanes_count c.args.begun.cores.items c.args.begun.seats.items in
    let same : length c.go_all.new.lanes ≡ length c.seat_all-lanes.result.items = c.go_all.ensures.count ∙ ap (λ (ls : List Lane). length ls) c.as_mut_slice.ensures.value in
    let back = written_back c.seat_all-lanes.result.items c.go_all.new.lanes c.seat_all-lanes.result.len same (omega arith) in
    let room = c.requires.begun.1.places.awake.1 in
    (c.requires.begun.1.places.awake.0, omega (arith, ap (λ (ls : List Lane). length ls) back, c.go_all.ensures.count, count, room))

pub part_all-requires-clause-seats : goal.part_all-requires-clause-seats
part_all-requires-clause-seats g c =
    let is : c.as_mut_slice.result.now ≡ lanes_of c.args.begun.cores.items c.args.begun.seats.items = c.as_mut_slice.ensures.value ∙ c.seat_all-lanes.ensures in
    let count : length c.as_mut_slice.result.now ≡ length c.args.begun.cores.items = ap (λ (ls : List Lane). length ls) is ∙ lanes_count c.args.begun.cores.items c.args.begun.seats.items in
    let same : length c.go_all.new.lanes ≡ length c.seat_all-lanes.result.items = c.go_all.ensures.count ∙ ap (λ (ls : List Lane). length ls) c.as_mut_slice.ensures.value in
    let back = written_back c.seat_all-lanes.result.items c.go_all.new.lanes c.seat_all-lanes.result.len same (omega arith) in
    let room = c.requires.begun.1.places.seats.1 in
    (c.requires.begun.1.places.seats.0, omega (arith, ap (λ (ls : List Lane). length ls) back, c.go_all.ensures.count, count, room))

pub close-closed-requires : goal.close-closed-requires
close-closed-requires g c =
    let is : c.as_mut_slice.result.now ≡ lanes_of c.args.begun.cores.items c.args.begun.seats.items = c.as_mut_slice.ensures.value ∙ c.seat_all-lanes.ensures in
    let same : length c.go_all.new.lanes ≡ length c.seat_all-lanes.result.items = c.go_all.ensures.count ∙ ap (λ (ls : List Lane). length ls) c.as_mut_slice.ensures.value in
    let back = written_back c.seat_all-lanes.result.items c.go_all.new.lanes c.seat_all-lanes.result.len same (omega arith) in
    let went = subst (λ (ls : List Lane). HaveGone (plan_of c.args.p.now) c.args.t.now c.args.begun.round ls c.go_all.new.lanes) is c.go_all.ensures in
    record {
      seats = subst (AreSeatsOf c.args.begun.round) (sym (c.part_all.ensures.seats ∙ ap seats_in back))
          (seats_return (plan_of c.args.p.now) c.args.t.now c.requires.begun.0 c.args.begun.round c.args.begun.cores.items c.args.begun.seats.items c.go_all.new.lanes c.requires.begun.1.opened went);
    }

pub returns-clause-run : goal.returns-clause-run
returns-clause-run g c = λ objects begun planned.
    let is : c.as_mut_slice.result.now ≡ lanes_of c.args.begun.cores.items c.args.begun.seats.items = c.as_mut_slice.ensures.value ∙ c.seat_all-lanes.ensures in
    let same : length c.go_all.new.lanes ≡ length c.seat_all-lanes.result.items = c.go_all.ensures.count ∙ ap (λ (ls : List Lane). length ls) c.as_mut_slice.ensures.value in
    let back = written_back c.seat_all-lanes.result.items c.go_all.new.lanes c.seat_all-lanes.result.len same (omega arith) in
    let gone : List Lane = c.go_all.new.lanes in
    let went = subst (λ (ls : List Lane). HaveGone (plan_of c.args.p.now) c.args.t.now c.args.begun.round ls gone) is c.go_all.ensures in
    let later = c.close-closed.result.objects.items in
    let entries = c.close-closed.result.entries.items in
    let parts = map made_of (seats_in gone) in
    let closed : IsClosed c.args.begun.round.opening parts later entries = subst (λ (ss : List CoreSeat). IsClosed c.args.begun.round.opening (map made_of ss) later entries) (c.part_all.ensures.seats ∙ ap seats_in back) c.close-closed.ensures in
    subst (λ (now : List CoreState). HasRun (plan_of c.args.p.now) c.args.t.now c.args.begun.cores.items now objects later entries) (sym (c.part_all.ensures.cores ∙ ap (map core_in) back))
    (has_run (plan_of c.args.p.now) c.args.t.now objects c.args.begun.round c.args.begun.cores.items c.args.begun.seats.items gone begun.opened went later entries closed
    (λ k m h sound is_plans lawful turns closed_it. c.rounds_on_threads_keep_the_law.ensures.lawful k m c.args.t.now c.args.begun.cores.items (map core_in gone) parts later entries h sound is_plans lawful turns closed_it)
    (λ k turns closed_it. c.rounds_on_threads_keep_the_law.ensures.within k c.args.t.now c.args.begun.cores.items (map core_in gone) parts later entries turns closed_it)
    (λ k room each closed_it. c.rounds_on_threads_keep_the_law.ensures.few k parts later entries room each closed_it) planned)
