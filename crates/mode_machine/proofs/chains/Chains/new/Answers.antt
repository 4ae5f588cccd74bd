use Rattle.std.proofs.Common.{◌≡◌, ◌<◌, ◌+◌, ◌-◌, ap, sym, subst, arith, length, Some}
use Rattle.std.specs.Map.{lookup}
use Rattle.std.proofs.lemmas.List.{get_or_default}
use Rattle.indexmap.specs.IndexMap.{get}
use Rattle.mode_machine.specs.Chains.{IsNext, occurs, same_moment}
use Rattle.mode_machine.specs.declared.owed.ModeEvent.TheVariants.{OnExit}
use Rattle.mode_machine.proofs.Moments.{AreFrom, linked, none_past, within_moments}
use Rattle.mode_machine.proofs.chains.Chains.new.Goals as goal

pub loop-event-init : goal.loop-event-init
loop-event-init c =
    let moments = c.args.moments.now in
    record {
      within = omega arith;
      made = record {
        count = omega (arith, c.in_ok-next.ensures.len, c.in_ok-next.next.ok);
        first = λ a. subst (IsNext (occurs moments (Some a)) (length moments)) (sym (ap (lookup (same_moment a)) c.new-first.ensures.empty)) (λ place behind. none_past moments (Some a) place behind);
        next = λ a other behind on. absurd (omega (arith, behind, within_moments moments (Some a) other on));
      };
    }

pub loop-event-preserved : goal.loop-event-preserved
loop-event-preserved c =
    let moments = c.args.moments.now in
    let event = c.loop-event.event - 1 in
    let within : event < length moments = omega (arith, c.loop-event.invariant.within, c.loop-event-test.true) in
    let whole : c.loop-event.event ≡ event + 1 = omega (arith, c.loop-event-test.true) in
    let before = subst (λ n. AreFrom moments n (λ a. get same_moment c.loop-event.first a) c.loop-event.next.items) whole c.loop-event.invariant.made in
    record {
      within = omega (arith, within);
      made = linked moments event _ within (get_or_default moments event (OnExit 0) _ within) (λ a. get same_moment c.loop-event.first a) _ c.loop-event.next.items _ (λ a. c.in_ok-link.ensures.first.0 a) c.in_ok-link.ensures.next before;
    }
