use Rattle.std.proofs.Common.{◌≡◌, false, sym, ◌∙◌, ap, subst, Some, ◌<◌, length}
use Rattle.bus_semantics.specs.Common.{same_Some, words_of, plan_of, wanted_of, object_of, is_start}
use Rattle.bus_semantics.specs.declared.entries.Actor.TheVariants.{Act}
use Rattle.bus_semantics.specs.declared.entries.Deed.TheVariants as deed
use Rattle.port_objects.specs.Benches.{written_last}
use Rattle.task_slots.specs.Common.{IsRunning, IsActive, tries_of, looks_of, IsTried, IsEntryOf, EntryOf, SlotLooked}
use Rattle.task_slots.specs.declared.slot.Slot.TheVariants as slots
use Rattle.task_slots.proofs.Written.{look_as, some_written}
use Rattle.task_slots.proofs.Wishes.{once}
use Rattle.task_slots.proofs.Begun.{asks_is, asked_is, looked_next}
use Rattle.task_slots.proofs.Steps.{heard_step}
use Rattle.task_slots.proofs.going.go_on.Goals as goal

pub unreachable-requires : goal.unreachable-requires
unreachable-requires g c =
    let p = plan_of c.args.p.now in
    let k = c.args.key in
    let s = c.args.slot.now in
    let r : IsRunning p c.args.t.now s.events.items s.frame k = subst (IsActive p c.args.t.now s.events.items s.frame s.inner) c.requires.runs c.requires.ready.active in
    let b = r.begun in
    let none = c.in-Over.ensures k (deed.Start b.event b.point b.value) b.answers b.stands in
    absurd (cc (none ∙ asks_is p c.args.t.now c.requires.bodies s.frame k b))

pub try_wish-requires-clause-tried : goal.try_wish-requires-clause-tried
try_wish-requires-clause-tried g c =
    let p = plan_of c.args.p.now in
    let k = c.args.key in
    let s = c.args.slot.now in
    let r : IsRunning p c.args.t.now s.events.items s.frame k = subst (IsActive p c.args.t.now s.events.items s.frame s.inner) c.requires.runs c.requires.ready.active in
    let b = r.begun in
    let some = c.in-Call.ensures k (deed.Start b.event b.point b.value) b.answers b.stands in
    let is : b.wish ≡ wanted_of c.in-Call.wish = sym (same_Some _ _ (some ∙ asks_is p c.args.t.now c.requires.bodies s.frame k b)) in
    subst (IsTried p (Act k)) is (c.what_is_asked_may_be_tried.ensures.tried p c.requires.sound.0 k b.runnable b.event (words_of b.value) b.answers b.wish c.requires.sound.1 b.fits b.asks)

pub returns-in-Made-clause-looked : goal.returns-in-Made-clause-looked
returns-in-Made-clause-looked g c =
    let p = plan_of c.args.p.now in
    let k = c.args.key in
    let s = c.args.slot.now in
    let r : IsRunning p c.args.t.now s.events.items s.frame k = subst (IsActive p c.args.t.now s.events.items s.frame s.inner) c.requires.runs c.requires.ready.active in
    let b = r.begun in
    let w = wanted_of c.in-Call.wish in
    let same : Some w ≡ Some b.wish = c.in-Call.ensures k (deed.Start b.event b.point b.value) b.answers b.stands ∙ asks_is p c.args.t.now c.requires.bodies s.frame k b in
    let other : is_start w ≡ false =
    ap is_start (same_Some _ _ same) ∙ c.what_is_asked_may_be_tried.ensures.begun p c.requires.sound.0 k b.runnable b.event (words_of b.value) b.answers b.wish c.requires.sound.1 b.fits b.asks in
    looked_next p c.args.t.now _ _ s.frame k w _ _ _ _ (ap (tries_of p c.args.t.now s.events.items s.frame s.inner) c.requires.runs) (ap (looks_of p s.events.items) c.requires.runs)
    (asked_is p c.args.t.now c.requires.bodies s.frame k b ∙ sym same) (once (object_of p (Act k) w) w other) c.in-Made.ensures.looked

pub returns-in-Nothing-clause-looked : goal.returns-in-Nothing-clause-looked
returns-in-Nothing-clause-looked g c =
    let p = plan_of c.args.p.now in
    let k = c.args.key in
    let s = c.args.slot.now in
    let r : IsRunning p c.args.t.now s.events.items s.frame k = subst (IsActive p c.args.t.now s.events.items s.frame s.inner) c.requires.runs c.requires.ready.active in
    let b = r.begun in
    let w = wanted_of c.in-Call.wish in
    let same : Some w ≡ Some b.wish = c.in-Call.ensures k (deed.Start b.event b.point b.value) b.answers b.stands ∙ asks_is p c.args.t.now c.requires.bodies s.frame k b in
    let other : is_start w ≡ false =
    ap is_start (same_Some _ _ same) ∙ c.what_is_asked_may_be_tried.ensures.begun p c.requires.sound.0 k b.runnable b.event (words_of b.value) b.answers b.wish c.requires.sound.1 b.fits b.asks in
    looked_next p c.args.t.now _ _ s.frame k w _ _ _ _ (ap (tries_of p c.args.t.now s.events.items s.frame s.inner) c.requires.runs) (ap (looks_of p s.events.items) c.requires.runs)
    (asked_is p c.args.t.now c.requires.bodies s.frame k b ∙ sym same) (once (object_of p (Act k) w) w other) c.in-Nothing.ensures.looked

pub returns-in-Contended-clause-looked : goal.returns-in-Contended-clause-looked
returns-in-Contended-clause-looked g c =
    let p = plan_of c.args.p.now in
    let k = c.args.key in
    let s = c.args.slot.now in
    let r : IsRunning p c.args.t.now s.events.items s.frame k = subst (IsActive p c.args.t.now s.events.items s.frame s.inner) c.requires.runs c.requires.ready.active in
    let b = r.begun in
    let w = wanted_of c.in-Call.wish in
    let same : Some w ≡ Some b.wish = c.in-Call.ensures k (deed.Start b.event b.point b.value) b.answers b.stands ∙ asks_is p c.args.t.now c.requires.bodies s.frame k b in
    let other : is_start w ≡ false =
    ap is_start (same_Some _ _ same) ∙ c.what_is_asked_may_be_tried.ensures.begun p c.requires.sound.0 k b.runnable b.event (words_of b.value) b.answers b.wish c.requires.sound.1 b.fits b.asks in
    looked_next p c.args.t.now _ _ s.frame k w _ _ _ _ (ap (tries_of p c.args.t.now s.events.items s.frame s.inner) c.requires.runs) (ap (looks_of p s.events.items) c.requires.runs)
    (asked_is p c.args.t.now c.requires.bodies s.frame k b ∙ sym same) (once (object_of p (Act k) w) w other) c.in-Contended.ensures.looked

pub returns-in-Made-clause-slot : goal.returns-in-Made-clause-slot
returns-in-Made-clause-slot g c =
    let p = plan_of c.args.p.now in
    let m = c.requires.sound.0 in
    let sound = c.requires.sound.1 in
    let k = c.args.key in
    let s = c.args.slot.now in
    let r : IsRunning p c.args.t.now s.events.items s.frame k = subst (IsActive p c.args.t.now s.events.items s.frame s.inner) c.requires.runs c.requires.ready.active in
    let b = r.begun in
    let some = c.in-Call.ensures k (deed.Start b.event b.point b.value) b.answers b.stands in
    let is : b.wish ≡ wanted_of c.in-Call.wish = sym (same_Some _ _ (some ∙ asks_is p c.args.t.now c.requires.bodies s.frame k b)) in
    let asked = c.what_is_asked_may_be_tried.ensures in
    let tried = asked.tried p m k b.runnable b.event (words_of b.value) b.answers b.wish sound b.fits b.asks in
    let e = c.last_written.result.now in
    let look = look_as c.try_wish.new.made.items e (sym (ap written_last c.deref.ensures.value) ∙ c.last_written.ensures) in
    subst (SlotLooked p c.args.t.now (slots.Task s) (slots.Task c.hear.new.slot)) (sym look)
    (heard_step p m sound c.args.t.now s c.hear.new.slot c.requires.ready e c.requires.bodies k c.requires.runs c.hear.ensures
    (subst (λ w. IsEntryOf p (Act k) w e) (sym is) (subst (EntryOf p (Act k) (wanted_of c.in-Call.wish)) look c.in-Made.ensures.entry)) tried
    (asked.begun p m k b.runnable b.event (words_of b.value) b.answers b.wish sound b.fits b.asks)
    (λ o named. asked.own p m k b.runnable b.event o (words_of b.value) b.answers b.wish sound b.fits b.asks named)
    (λ d asks over answer. asked.further p m k b.runnable b.event (words_of b.value) b.answers d sound b.fits asks over answer)
    (λ d h none free is_free. c.free_deeds_are_legal.ensures.answers p m (Act k) b.wish d h sound tried.fits none free is_free))

pub last_written-requires : goal.last_written-requires
last_written-requires g c = subst (λ xs. 0 < length xs) (sym c.deref.ensures.value) (some_written c.args.made.now.items c.try_wish.new.made.items c.in-Made.ensures.written)
