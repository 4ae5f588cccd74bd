use Rattle.std.proofs.Common.{◌<◌, ◌∙◌, refl, List, subst, sym}
use Rattle.std.specs.Prelude.{count_by}
use Rattle.tick_events.specs.Countdowns.{Countdown}
use Rattle.tick_events.proofs.Anew.{fewer, fit_anew, has_ended, settled_anew}
use Rattle.tick_events.proofs.ringing.ring.Goals as goal

pub loop-ended-smaller : goal.loop-ended-smaller
loop-ended-smaller c =
    let cs = c.loop-ended.countdowns in
    let end = c.in-Some.ensures.some in
    subst (λ (xs : List Countdown). count_by has_ended xs < count_by has_ended cs) (sym (c.restart.ensures end.0 end.1)) (fewer cs c.in-Some.ended end.0 end.1 end.2 c.loop-ended.invariant.fit.within)

pub loop-ended-init : goal.loop-ended-init
loop-ended-init c = record { fit = c.requires; settled = refl }

pub loop-ended-preserved : goal.loop-ended-preserved
loop-ended-preserved c =
    let end = c.in-Some.ensures.some in
    let kept = c.loop-ended.invariant in
    let anew = c.restart.ensures end.0 end.1 in
    record {
      fit = fit_anew c.loop-ended.countdowns c.restart.new.self c.in-Some.ended end.0 c.loop-ended.flags c.set_group.new.self end.1 anew c.set_group.ensures kept.fit;
      settled = settled_anew c.loop-ended.countdowns c.restart.new.self c.in-Some.ended end.0 c.loop-ended.flags c.set_group.new.self end.1 end.2 anew c.set_group.ensures kept.fit.within ∙ kept.settled;
    }
