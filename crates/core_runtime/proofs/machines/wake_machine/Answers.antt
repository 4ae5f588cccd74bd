use Rattle.std.proofs.Common.{◌<◌, length, arith, sym, ◌∙◌}
use Rattle.bus_semantics.specs.Plan.{plan_of}
use Rattle.core_runtime.proofs.Behind.{roused_here}
use Rattle.latches.proofs.Places.{found_at}
use Rattle.core_runtime.proofs.Wakes.{are_set}
use Rattle.core_runtime.proofs.machines.wake_machine.Goals as goal

pub rouse_machine-requires : goal.rouse_machine-requires
rouse_machine-requires c =
    let xs = c.args.awake.now.items in
    let within : 0 < length xs = grind (arith, c.if-is_empty.ensures) in
    record { even = c.requires.even 0 c.index_mut.result.now (found_at xs 0 c.index_mut.result.now within c.index_mut.ensures.value) }

pub returns-in-Some-clause-woken : goal.returns-in-Some-clause-woken
returns-in-Some-clause-woken c =
    let xs = c.args.awake.now.items in
    let within : 0 < length xs = grind (arith, c.if-is_empty.ensures) in
    are_set xs 0 c.index_mut.result.now c.rouse_machine.new.core (found_at xs 0 c.index_mut.result.now within c.index_mut.ensures.value) c.rouse_machine.ensures.woken

pub returns-in-Some-clause-roused : goal.returns-in-Some-clause-roused
returns-in-Some-clause-roused c = λ n t objects cores touching behind watched.
    let xs = c.args.awake.now.items in
    let within : 0 < length xs = grind (arith, c.if-is_empty.ensures) in
    roused_here (plan_of c.args.p.now) n t objects cores xs c.in-Some.object c.index_mut.result.now c.rouse_machine.new.core (sym c.in-Some.is ∙ touching)
    (found_at xs 0 c.index_mut.result.now within c.index_mut.ensures.value) c.rouse_machine.ensures.awake behind watched
