use Rattle.std.proofs.Common.{◌<◌, map, subst, sym, arith}
use Rattle.std.specs.Prelude.{All}
use Rattle.std.proofs.lemmas.List.{length-map}
use Rattle.task_slots.specs.Slots.{events_of_slot}
use Rattle.core_runtime.specs.Watching.{IsOfCore}
use Rattle.core_runtime.proofs.Seated.{adds_none, core_on, core_all}
use Rattle.core_runtime.proofs.seats.seat_core.Goals as goal

pub seat_task-requires : goal.seat_task-requires
seat_task-requires c = subst (λ n. All (λ e. e < n) c.events.result.now) (sym c.loop-slot.invariant.count) (c.requires c.loop-slot.slot c.events.result.now c.events.ensures)

pub loop-slot-init : goal.loop-slot-init
loop-slot-init c = adds_none (λ s. s.slot) (IsOfCore (map events_of_slot c.args.core.now.slots) c.args.number) c.args.seats.now.items

pub loop-slot-preserved : goal.loop-slot-preserved
loop-slot-preserved c =
    core_on c.args.seats.now.items c.loop-slot.seats.items c.seat_task.new.seats.items (map events_of_slot c.args.core.now.slots) c.args.number c.loop-slot.slot c.events.result.now
    c.events.ensures c.loop-slot.invariant c.in_ok-seat_task.ensures

pub returns : goal.returns
returns c =
    let count = length-map c.args.core.now.slots events_of_slot in
    core_all c.args.seats.now.items c.loop-slot.seats.items (map events_of_slot c.args.core.now.slots) c.args.number c.loop-slot.slot (omega (arith, count, c.slots-slot-end.ensures)) c.loop-slot.invariant
