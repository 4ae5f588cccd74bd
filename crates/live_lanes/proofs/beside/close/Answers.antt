use Rattle.std.proofs.Common.{◌≡◌, suc, refl, sym, ◌∙◌, ap, subst, arith, List, [], ◌∷◌, ◌++◌, map, length, Some}
use Rattle.bus_semantics.specs.Common.{flat_map, length-map, length_push}
use Rattle.core_turn.specs.Cores.{CoreState}
use Rattle.cross_core_table.specs.declared.seats.CoreSeat.{CoreSeat}
use Rattle.cross_core_table.specs.Closing.{IsClosed}
use Rattle.cross_core_table.specs.Seats.{AreSeatsOf, made_of}
use Rattle.live_lanes.specs.declared.caller.Caller.{Caller}
use Rattle.live_lanes.specs.declared.lanes.Lane.{Lane}
use Rattle.live_lanes.specs.declared.workers.Worker.{Worker}
use Rattle.live_lanes.specs.declared.workers.Worker.TheVariants.{Core, Pump}
use Rattle.live_lanes.specs.Lanes.{core_in, seats_in, with_seat}
use Rattle.live_lanes.specs.Workers.{lane_in}
use Rattle.live_lanes.proofs.Lists.{seats_within}
use Rattle.live_lanes.proofs.Runs.{seats_return, has_served}
use Rattle.live_lanes.proofs.Working.{lanes_of_cores}
use Rattle.live_lanes.proofs.beside.close.Goals as goal

pub take_caller-pump-requires : goal.take_caller-pump-requires
take_caller-pump-requires c = (c.requires.done.4, c.requires.done.5, c.requires.done.7)

pub part_all-requires-clause-cores : goal.part_all-requires-clause-cores
part_all-requires-clause-cores c =
    let lanes = c.requires.done.4 in
    let left : c.take_caller-pump.new.workers.items ≡ map Core lanes = (c.take_caller-pump.ensures lanes c.requires.done.5 c.requires.done.7).1 in
    let long = ap (λ (ws : List Worker). length ws) c.requires.done.7 ∙ length_push (map Core lanes) (Pump c.requires.done.5) in
    let short = ap (λ (ws : List Worker). length ws) left in
    (c.requires.cores.0, omega (arith, c.requires.cores.1, long, short))

pub part_all-requires-clause-seats : goal.part_all-requires-clause-seats
part_all-requires-clause-seats c =
    let lanes = c.requires.done.4 in
    let left : c.take_caller-pump.new.workers.items ≡ map Core lanes = (c.take_caller-pump.ensures lanes c.requires.done.5 c.requires.done.7).1 in
    let long = ap (λ (ws : List Worker). length ws) c.requires.done.7 ∙ length_push (map Core lanes) (Pump c.requires.done.5) in
    let short = ap (λ (ws : List Worker). length ws) left in
    (c.requires.seats.0, omega (arith, c.requires.seats.1, long, short))

pub keep-requires : goal.keep-requires
keep-requires c =
    let lanes = c.requires.done.4 in
    let left : c.take_caller-pump.new.workers.items ≡ map Core lanes = (c.take_caller-pump.ensures lanes c.requires.done.5 c.requires.done.7).1 in
    let long = ap (λ (ws : List Worker). length ws) c.requires.done.7 ∙ length_push (map Core lanes) (Pump c.requires.done.5) in
    let seats : c.part_all.new.seats.items ≡ seats_in lanes = c.part_all.ensures.seats ∙ ap (λ ws. seats_in (flat_map lane_in ws)) left ∙ ap seats_in (lanes_of_cores lanes) in
    omega (arith, c.requires.seats.1, long, length-map lanes Core, ap (λ (ss : List CoreSeat). length ss) seats, seats_within lanes, c.part_all.ensures.space)

pub close-objects-requires : goal.close-objects-requires
close-objects-requires c =
    let lanes = c.requires.done.4 in
    let done = c.requires.done.6 in
    let taken = c.take_caller-pump.ensures lanes c.requires.done.5 c.requires.done.7 in
    let seats : c.part_all.new.seats.items ≡ seats_in lanes = c.part_all.ensures.seats ∙ ap (λ ws. seats_in (flat_map lane_in ws)) taken.1 ∙ ap seats_in (lanes_of_cores lanes) in
    let env = ap (λ (x : Caller). with_seat x.seat []) taken.0 ∙ ap (λ o. with_seat o []) done.called.has in
    record {
      seats = subst (AreSeatsOf c.args.round) (sym (c.keep.ensures.items ∙ ap (λ ss. ss ++ with_seat c.take_caller-pump.result.seat []) seats ∙ ap (λ ss. seats_in lanes ++ ss) env))
          (seats_return c.requires.done.0 c.requires.done.1 c.requires.done.2 c.args.round c.requires.done.3 lanes c.requires.done.5 done);
    }

pub returns : goal.returns
returns c = λ p t feeds old lanes k done is planned.
    let taken = c.take_caller-pump.ensures lanes k is in
    let seats : c.part_all.new.seats.items ≡ seats_in lanes = c.part_all.ensures.seats ∙ ap (λ ws. seats_in (flat_map lane_in ws)) taken.1 ∙ ap seats_in (lanes_of_cores lanes) in
    let env = ap (λ (x : Caller). with_seat x.seat []) taken.0 ∙ ap (λ o. with_seat o []) done.called.has in
    let all = c.keep.ensures.items ∙ ap (λ ss. ss ++ with_seat c.take_caller-pump.result.seat []) seats ∙ ap (λ ss. seats_in lanes ++ ss) env in
    let later = c.close-objects.result.objects.items in
    let entries = c.close-objects.result.entries.items in
    let closed = subst (λ (ss : List CoreSeat). IsClosed c.args.round.opening (map made_of ss) later entries) all c.close-objects.ensures in
    has_served p t feeds c.args.round old lanes k done _ (c.part_all.ensures.cores ∙ ap (λ ws. map core_in (flat_map lane_in ws)) taken.1 ∙ ap (map core_in) (lanes_of_cores lanes)) (ap (λ (x : Caller). x.pump) taken.0) closed
    (λ key x h sound is_plans lawful turns closed_it. c.rounds_on_threads_keep_the_law.ensures.beside key x t old (map core_in lanes) (made_of done.called.seat) (map made_of (seats_in lanes ++ done.called.seat ∷ [])) later entries h sound is_plans lawful turns closed_it)
    (λ key turns closed_it. c.rounds_on_threads_keep_the_law.ensures.calls key t old (map core_in lanes) (made_of done.called.seat) (map made_of (seats_in lanes ++ done.called.seat ∷ [])) later entries turns closed_it) planned
