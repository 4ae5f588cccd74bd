use Rattle.std.proofs.Common.{◌<◌, ◌∙◌, refl, true≢false, arith, List, length, subst, sym, ap, inl}
use Rattle.std.specs.Prelude.{count_by}
use Rattle.std.proofs.lemmas.List.{length-map}
use Rattle.std.proofs.lemmas.Option.{same_Some}
use Rattle.latches.specs.Latches.{after_set}
use Rattle.latches.proofs.Newly.{newly_next, stays_next}
use Rattle.tick_events.specs.Countdowns.{Countdown}
use Rattle.tick_events.proofs.Anew.{already, fewer, fit_anew, has_ended, newly, pending_after, settled_anew}
use Rattle.tick_events.proofs.ringing.ring_and_tell.Goals as goal

pub loop-ended-smaller : goal.loop-ended-smaller
loop-ended-smaller c =
    let cs = c.loop-ended.countdowns in
    let b = c.in-Some.ended in
    let end = c.in-Some.ensures.some in
    subst (λ (xs : List Countdown). count_by has_ended xs < count_by has_ended cs) (sym (c.restart.ensures end.0 end.1)) (fewer cs b end.0 end.1 end.2 c.loop-ended.invariant.fit.within)

pub loop-ended-init : goal.loop-ended-init
loop-ended-init c = record {
  fit = c.requires.fit;
  settled = refl;
  named = c.requires.named;
  room = c.requires.room;
  capacity = refl;
  stays = λ at l is clear. is;
  only = λ name among. inl among;
  told = λ event name was now named. absurd (true≢false (same_Some _ _ (sym now ∙ was)));
}

pub loop-ended-preserved : goal.loop-ended-preserved
loop-ended-preserved c =
    let cs = c.loop-ended.countdowns in
    let ls = c.loop-ended.flags in
    let b = c.in-Some.ended in
    let kept = c.loop-ended.invariant in
    let end = c.in-Some.ensures.some in
    let anew = c.restart.ensures end.0 end.1 in
    let told = c.set_and_tell.ensures in
    let now = c.set_and_tell.new.self in
    record {
      fit = fit_anew cs c.restart.new.self b end.0 ls now end.1 anew told.set kept.fit;
      settled = settled_anew cs c.restart.new.self b end.0 ls now end.1 end.2 anew told.set kept.fit.within ∙ kept.settled;
      named = kept.named ∙ sym (ap length told.set ∙ length-map ls (after_set b));
      room = omega (arith, told.room, kept.room, told.capacity);
      capacity = told.capacity ∙ kept.capacity;
      stays = stays_next c.args.flags.now ls now b told.set kept.stays;
      only = newly_next c.args.flags.now ls now b told.set c.args.names.now c.args.rung.now.items c.loop-ended.rung.items c.set_and_tell.new.told.items kept.stays kept.only told.only;
      told = λ event name was due named. elim (pending_after ls now b event told.set due) [
        | already before ↦ told.kept name (kept.told event name was before named)
        | newly l is of off ↦ told.told event name l is of off named
      ];
    }
