use Rattle.std.proofs.Common.{sym, subst}
use Rattle.bus_semantics.specs.Plan.{plan_of}
use Rattle.task_slots.specs.declared.slot.Slot.TheVariants as slots
use Rattle.task_slots.specs.Common.{look_of, SlotLooked}
use Rattle.task_slots.proofs.looking.look_at.Goals as goal

pub returns-in-Machine-clause-slot : goal.returns-in-Machine-clause-slot
returns-in-Machine-clause-slot g c =
    subst (λ s. SlotLooked (plan_of c.args.p.now) c.args.t.now s (slots.Machine c.in-Machine.number) (look_of c.move_on.result c.move_on.new.made.items)) (sym c.in-Machine.is) (c.move_on.ensures.slot c.args.t.now)
