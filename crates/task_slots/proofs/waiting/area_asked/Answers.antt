use Rattle.std.proofs.Common.{◌≡◌, refl, sym, ◌∙◌, ap, subst, Some}
use Rattle.std.specs.Prelude.{IfSome}
use Rattle.bus_semantics.specs.Common.{same_Some, words_of, plan_of, to_enter, wanted_of}
use Rattle.bus_semantics.specs.declared.entries.Actor.TheVariants.{Act}
use Rattle.bus_semantics.specs.declared.entries.Deed.TheVariants as deed
use Rattle.task_slots.specs.Looking.{IsTried}
use Rattle.task_slots.specs.Waiting.{AsksAt}
use Rattle.task_slots.proofs.Begun.{asks_is, asked_is}
use Rattle.task_slots.proofs.waiting.area_asked.Goals as goal

pub object_of-requires : goal.object_of-requires
object_of-requires c =
    let p = plan_of c.args.p.now in
    let k = c.args.key in
    let b = c.requires.begun in
    let some = c.in-Call-Enter.ensures k (deed.Start b.event b.point b.value) b.answers b.stands in
    let is : b.wish ≡ to_enter c.in-Call-Enter.area = sym (same_Some _ _ (some ∙ asks_is p c.args.t.now c.requires.bodies c.args.frame.now k b)) ∙ ap wanted_of c.in-Call-Enter.field-0-is in
    let tried = subst (IsTried p (Act k)) is (c.what_is_asked_may_be_tried.ensures.tried p c.requires.sound.0 k b.runnable b.event (words_of b.value) b.answers b.wish c.requires.sound.1 b.fits b.asks) in
    record { within = tried.there }

pub returns-in-Call-Enter : goal.returns-in-Call-Enter
returns-in-Call-Enter c =
    let p = plan_of c.args.p.now in
    let k = c.args.key in
    let x = c.in-Call-Enter.area in
    let b = c.requires.begun in
    let some = c.in-Call-Enter.ensures k (deed.Start b.event b.point b.value) b.answers b.stands in
    let is : b.wish ≡ to_enter x = sym (same_Some _ _ (some ∙ asks_is p c.args.t.now c.requires.bodies c.args.frame.now k b)) ∙ ap wanted_of c.in-Call-Enter.field-0-is in
    let tried = subst (IsTried p (Act k)) is (c.what_is_asked_may_be_tried.ensures.tried p c.requires.sound.0 k b.runnable b.event (words_of b.value) b.answers b.wish c.requires.sound.1 b.fits b.asks) in
    subst (λ o. IfSome o (AsksAt p c.args.t.now k c.args.frame.now)) (sym c.object_of.ensures) (record {
      area = x;
      asks = asked_is p c.args.t.now c.requires.bodies c.args.frame.now k b ∙ ap (λ w. Some w) is;
      fits = tried.fits;
      there = refl;
    })
