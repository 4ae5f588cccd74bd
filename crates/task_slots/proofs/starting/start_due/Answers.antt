use Rattle.std.proofs.Common.{◌≡◌, true, sym, subst, ◌<◌, ◌∙◌, ap, length}
use Rattle.bus_semantics.specs.Common.{list_all, plan_of}
use Rattle.port_objects.specs.Benches.{written_last}
use Rattle.task_slots.specs.Common.{may_be_mapped, IsStartBy, StartBy, SlotLooked}
use Rattle.task_slots.specs.declared.slot.Slot.TheVariants as slots
use Rattle.task_slots.proofs.Written.{look_as, some_written}
use Rattle.task_slots.proofs.Steps.{begun_step}
use Rattle.task_slots.proofs.starting.start_due.Goals as goal

pub start_first-requires-clause-there : goal.start_first-requires-clause-there
start_first-requires-clause-there g c = subst (λ xs. list_all (may_be_mapped (plan_of c.args.p.now)) xs ≡ true) (sym c.as_slice.ensures.value) c.requires.ready.mapped

pub returns-in-Made-clause-slot : goal.returns-in-Made-clause-slot
returns-in-Made-clause-slot g c =
    let p = plan_of c.args.p.now in
    let e = c.last_written.result.now in
    let look = look_as c.start_first.new.made.items e (sym (ap written_last c.deref.ensures.value) ∙ c.last_written.ensures) in
    let by = subst (λ xs. IsStartBy p xs e) c.as_slice.ensures.value (subst (StartBy p c.as_slice.result.now) look c.in-Made.ensures.start) in
    subst (SlotLooked p c.args.t.now (slots.Task c.args.slot.now) (slots.Task c.begin.new.slot)) (sym look)
    (begun_step p c.requires.sound.0 c.requires.sound.1 c.args.t.now c.args.slot.now c.begin.new.slot c.requires.ready e c.requires.free by (c.begin.ensures _ by.entry.actor)
    (λ k r event start fit there starts. c.what_is_asked_may_be_tried.ensures.first p c.requires.sound.0 k r event start c.requires.sound.1 fit there starts))

pub last_written-requires : goal.last_written-requires
last_written-requires g c = subst (λ xs. 0 < length xs) (sym c.deref.ensures.value) (some_written c.args.made.now.items c.start_first.new.made.items c.in-Made.ensures.written)
