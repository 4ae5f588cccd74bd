use Rattle.std.proofs.Common.{◌≡◌, ◌≤◌, true, false, length, take, min, sym, ◌∙◌, ap, subst, arith, Some}
use Rattle.bus_semantics.specs.Common.{false≢true, plan_of, words_at}
use Rattle.bundle_objects.specs.Kept.{BundleState}
use Rattle.bundle_objects.specs.Leading.{store}
use Rattle.bundle_objects.specs.Words.{value_of}
use Rattle.bundle_objects.proofs.Marking.{take_least, take_short}
use Rattle.bundle_objects.proofs.Words.{value_is}
use Rattle.bundle_objects.proofs.bundle.Bundle.publish_front.Goals.{in-Some, in_default}
use Rattle.bundle_objects.proofs.bundle.Bundle.publish_front.Goals as goal

pub returns-clause-kept : goal.returns-clause-kept
returns-clause-kept c = elim c.match-new.branch [
  | in-Some w ↦
      let p = plan_of c.args.p.now in
      let front : take c.min-count.result c.args.words.now ≡ take (words_at p c.args.elem) c.args.words.now =
      take_least (words_at p c.args.elem) c.min-count.result c.args.words.now (c.min-count.ensures ∙ ap (λ n. min n (length c.args.words.now)) c.words_at.ensures) in
      ap (λ (s : BundleState). s.kept) w.self-is
      ∙ w.store.ensures.kept
      ∙ ap (store p c.args.self.now.kept c.args.elem) (value_is w.in-Some.value (take (words_at p c.args.elem) c.args.words.now) (w.in-Some.ensures.words ∙ front))
  | in_default w ↦ absurd (false≢true (w.in_default.ensures.fits.1 (take_short c.min-count.result c.args.words.now c.requires.short)))
]
