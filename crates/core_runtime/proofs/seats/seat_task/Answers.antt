use Rattle.std.proofs.Common.{◌<◌, get_or, length, set, arith}
use Rattle.std.proofs.lemmas.Option.{slice_get-get_or}
use Rattle.core_runtime.specs.Watching.{IsOfTask}
use Rattle.latches.proofs.Places.{found_at}
use Rattle.core_runtime.proofs.Seated.{adds_none, one_added, task_on, task_all}
use Rattle.core_runtime.proofs.seats.seat_task.Goals as goal

pub loop-place-init : goal.loop-place-init
loop-place-init c = adds_none (λ s. s.place) (IsOfTask c.args.events.now c.args.core c.args.slot) c.args.seats.now.items

pub loop-place-preserved : goal.loop-place-preserved
loop-place-preserved c =
    let k = c.loop-place.place in
    let seats = c.loop-place.seats.items in
    let event = get_or c.args.events.now k 0 in
    let row = c.index_mut.result.now in
    let below : event < length c.args.seats.now.items = c.requires k 0 c.loop-place-test.true in
    let within : event < length seats = omega (arith, below, c.loop-place.invariant.count) in
    task_on c.args.seats.now.items seats (set seats event c.push.new.self) c.args.events.now c.args.core c.args.slot k event (slice_get-get_or c.args.events.now k 0 c.loop-place-test.true) c.loop-place.invariant
    (one_added seats event row c.push.new.self (record { core = c.args.core; slot = c.args.slot; place = k }) (found_at seats event row within c.index_mut.ensures.value) c.in_ok-push.ensures.items)

pub returns : goal.returns
returns c = task_all c.args.seats.now.items c.loop-place.seats.items c.args.events.now c.args.core c.args.slot c.loop-place.place (omega arith) c.loop-place.invariant
