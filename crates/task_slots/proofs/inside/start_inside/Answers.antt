use Rattle.std.proofs.Common.{sym, ◌∙◌, ap, subst, ◌<◌, length}
use Rattle.bus_semantics.specs.declared.entries.Actor.TheVariants.{Act}
use Rattle.bus_semantics.specs.Common.{plan_of, to_start}
use Rattle.port_objects.specs.Benches.{written_last}
use Rattle.task_slots.specs.Common.{IsRunning, IsCalled, IsActive, tries_of, looks_of, EntryOf, SlotLooked}
use Rattle.task_slots.specs.declared.slot.Slot.TheVariants as slots
use Rattle.task_slots.proofs.Written.{look_as, some_written}
use Rattle.task_slots.proofs.Calling.{direct_tried, direct_looked}
use Rattle.task_slots.proofs.Steps.{serve_step}
use Rattle.task_slots.proofs.inside.start_inside.Goals as goal

pub try_wish-requires-clause-tried : goal.try_wish-requires-clause-tried
try_wish-requires-clause-tried g c =
    let p = plan_of c.args.p.now in
    let s = c.args.slot.now in
    let r : IsRunning p c.args.t.now s.events.items s.frame c.args.call.caller × IsCalled p c.args.call =
    subst (IsActive p c.args.t.now s.events.items s.frame s.inner) c.requires.calls c.requires.ready.active in
    direct_tried p c.requires.sound.0 c.requires.sound.1 c.args.call r.1 (λ a w fit. c.sound_plans_have_objects.ensures.touched p c.requires.sound.0 a w c.requires.sound.1 fit)

pub returns-in-Made-clause-looked : goal.returns-in-Made-clause-looked
returns-in-Made-clause-looked g c =
    let p = plan_of c.args.p.now in
    let s = c.args.slot.now in
    let r : IsRunning p c.args.t.now s.events.items s.frame c.args.call.caller × IsCalled p c.args.call =
    subst (IsActive p c.args.t.now s.events.items s.frame s.inner) c.requires.calls c.requires.ready.active in
    direct_looked p c.requires.sound.0 c.requires.sound.1 c.args.call r.1 _ _ _ _ _ (ap (tries_of p c.args.t.now s.events.items s.frame s.inner) c.requires.calls) (ap (looks_of p s.events.items) c.requires.calls) c.in-Made.ensures.looked

pub returns-in-Nothing-clause-looked : goal.returns-in-Nothing-clause-looked
returns-in-Nothing-clause-looked g c =
    let p = plan_of c.args.p.now in
    let s = c.args.slot.now in
    let r : IsRunning p c.args.t.now s.events.items s.frame c.args.call.caller × IsCalled p c.args.call =
    subst (IsActive p c.args.t.now s.events.items s.frame s.inner) c.requires.calls c.requires.ready.active in
    direct_looked p c.requires.sound.0 c.requires.sound.1 c.args.call r.1 _ _ _ _ _ (ap (tries_of p c.args.t.now s.events.items s.frame s.inner) c.requires.calls) (ap (looks_of p s.events.items) c.requires.calls) c.in-Nothing.ensures.looked

pub returns-in-Contended-clause-looked : goal.returns-in-Contended-clause-looked
returns-in-Contended-clause-looked g c =
    let p = plan_of c.args.p.now in
    let s = c.args.slot.now in
    let r : IsRunning p c.args.t.now s.events.items s.frame c.args.call.caller × IsCalled p c.args.call =
    subst (IsActive p c.args.t.now s.events.items s.frame s.inner) c.requires.calls c.requires.ready.active in
    direct_looked p c.requires.sound.0 c.requires.sound.1 c.args.call r.1 _ _ _ _ _ (ap (tries_of p c.args.t.now s.events.items s.frame s.inner) c.requires.calls) (ap (looks_of p s.events.items) c.requires.calls) c.in-Contended.ensures.looked

pub returns-in-Made-clause-slot : goal.returns-in-Made-clause-slot
returns-in-Made-clause-slot g c =
    let p = plan_of c.args.p.now in
    let e = c.last_written.result.now in
    let look = look_as c.try_wish.new.made.items e (sym (ap written_last c.deref.ensures.value) ∙ c.last_written.ensures) in
    subst (SlotLooked p c.args.t.now (slots.Task c.args.slot.now) (slots.Task c.serve.new.slot)) (sym look)
    (serve_step p c.requires.sound.0 c.requires.sound.1 c.args.t.now c.args.slot.now c.serve.new.slot c.requires.ready e c.args.call c.requires.calls c.serve.ensures
    (subst (EntryOf p (Act c.args.call.direct) (to_start c.args.call.event)) look c.in-Made.ensures.entry)
    (λ k r event start fit there starts. c.what_is_asked_may_be_tried.ensures.first p c.requires.sound.0 k r event start c.requires.sound.1 fit there starts))

pub last_written-requires : goal.last_written-requires
last_written-requires g c = subst (λ xs. 0 < length xs) (sym c.deref.ensures.value) (some_written c.args.made.now.items c.try_wish.new.made.items c.in-Made.ensures.written)
