use Rattle.std.proofs.Common.{◌≡◌, ◌<◌, ◌≤◌, ◌+◌, ◌%◌, ◌/◌, ◌==◌, true, false, length, drop, take, get_or, sym, ◌∙◌, ap, subst, arith}
use Rattle.bus_semantics.specs.Common.{eq-eqb, ne_eqb, length-drop, plan_of, words_at, marked, split}
use Rattle.bundle_objects.specs.Acting.{Adds}
use Rattle.bundle_objects.specs.Kept.{BundleState, clear_in}
use Rattle.bundle_objects.specs.Leading.{part_of, store, publish}
use Rattle.bundle_objects.specs.Plans.{IsOfPlan}
use Rattle.bundle_objects.specs.Words.{value_of}
use Rattle.bundle_objects.proofs.Acting.{store_planned}
use Rattle.bundle_objects.proofs.Adding.{adds_then}
use Rattle.bundle_objects.proofs.Marking.{marked_more, passed_more}
use Rattle.bundle_objects.proofs.bundle.Bundle.publish_marked.Goals.{then-marks-eq1, else-marks-eq1}
use Rattle.bundle_objects.proofs.bundle.Bundle.publish_marked.Goals as goal

pub loop-elem-preserved : goal.loop-elem-preserved
loop-elem-preserved c =
    let p = plan_of c.args.p.now in
    let k = c.loop-elem.self.kept in
    let i = c.loop-elem.elem-index in
    let marks = c.loop-elem.marks in
    let elems = c.args.elems.now in
    let x = get_or elems i 0 in
    let rest = c.loop-elem.rest.now in
    let before = c.loop-elem.invariant in
    elim c.if-marks-eq1.branch [
      | then-marks-eq1 w ↦
          let made = w.publish_front-rest.ensures in
          let left = ap (λ r. r.now) w.rest-is ∙ made.rest in
          let kept = ap (λ (s : BundleState). s.kept) w.self-is ∙ made.kept in
          record {
            kept = (λ j. publish p (kept j) (split p (marked (marks / 2) (drop (i + 1) elems)) (left j)))
                ∙ marked_more p k marks i elems rest c.loop-elem-test.true (eq-eqb (marks % 2) 1 w.if-marks-eq1.true) ∙ before.kept;
            room = subst (λ (s : BundleState). length s.woken + clear_in s.kept ≤ s.room) (sym w.self-is) made.room;
            short = omega (arith, ap length left, length-drop (words_at p x) rest, before.short);
            planned = λ b own. subst (λ z. IsOfPlan p b z) (sym kept) (store_planned p b k (value_of (take (words_at p x) rest)) (part_of p k x) (before.planned b own));
            adds = λ b own. adds_then c.args.self.now c.loop-elem.self c.if-marks-eq1.self (before.adds b own) (subst (λ s. Adds c.loop-elem.self s) (sym w.self-is) (made.adds b (before.planned b own)));
          }
      | else-marks-eq1 w ↦
          let left = ap (λ r. r.now) w.rest-is in
          let kept = ap (λ (s : BundleState). s.kept) w.self-is in
          record {
            kept = (λ j. publish p (kept j) (split p (marked (marks / 2) (drop (i + 1) elems)) (left j)))
                ∙ passed_more p k marks i elems rest c.loop-elem-test.true (ne_eqb (marks % 2) 1 w.if-marks-eq1.false) ∙ before.kept;
            room = subst (λ (s : BundleState). length s.woken + clear_in s.kept ≤ s.room) (sym w.self-is) before.room;
            short = omega (arith, ap length left, before.short);
            planned = λ b own. subst (λ z. IsOfPlan p b z) (sym kept) (before.planned b own);
            adds = λ b own. subst (λ s. Adds c.args.self.now s) (sym w.self-is) (before.adds b own);
          }
    ]
