use Rattle.std.proofs.Common.{◌≡◌, sym, ◌∙◌, ap, subst, Some}
use Rattle.bus_semantics.specs.Common.{same_Some, words_of, plan_of, to_hear, wanted_of}
use Rattle.bus_semantics.specs.declared.entries.Actor.TheVariants.{Act}
use Rattle.bus_semantics.specs.declared.entries.Deed.TheVariants as deed
use Rattle.task_slots.specs.Looking.{IsTried}
use Rattle.task_slots.proofs.Begun.{asks_is, asked_is}
use Rattle.task_slots.proofs.waiting.point_asked.Goals as goal

pub object_of-requires : goal.object_of-requires
object_of-requires c =
    let p = plan_of c.args.p.now in
    let k = c.args.key in
    let b = c.requires.begun in
    let some = c.in-Call-Answer.ensures k (deed.Start b.event b.point b.value) b.answers b.stands in
    let is : b.wish ≡ to_hear c.in-Call-Answer.point = sym (same_Some _ _ (some ∙ asks_is p c.args.t.now c.requires.bodies c.args.frame.now k b)) ∙ ap wanted_of c.in-Call-Answer.field-0-is in
    let tried = subst (IsTried p (Act k)) is (c.what_is_asked_may_be_tried.ensures.tried p c.requires.sound.0 k b.runnable b.event (words_of b.value) b.answers b.wish c.requires.sound.1 b.fits b.asks) in
    record { within = tried.there }

pub returns-in-Some : goal.returns-in-Some
returns-in-Some c =
    let p = plan_of c.args.p.now in
    let k = c.args.key in
    let x = c.in-Call-Answer.point in
    let b = c.requires.begun in
    let some = c.in-Call-Answer.ensures k (deed.Start b.event b.point b.value) b.answers b.stands in
    let is : b.wish ≡ to_hear x = sym (same_Some _ _ (some ∙ asks_is p c.args.t.now c.requires.bodies c.args.frame.now k b)) ∙ ap wanted_of c.in-Call-Answer.field-0-is in
    let tried = subst (IsTried p (Act k)) is (c.what_is_asked_may_be_tried.ensures.tried p c.requires.sound.0 k b.runnable b.event (words_of b.value) b.answers b.wish c.requires.sound.1 b.fits b.asks) in
    record {
      asks = asked_is p c.args.t.now c.requires.bodies c.args.frame.now k b ∙ ap (λ w. Some w) is;
      fits = tried.fits;
      object = c.in-Some.field-0;
      there = sym c.in-Some.ensures;
    }
