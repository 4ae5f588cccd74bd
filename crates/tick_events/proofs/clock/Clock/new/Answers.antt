use Rattle.std.proofs.Common.{◌<◌, ◌≤◌, ◌∙◌, List, [], ◌∷◌, ◌++◌, length, map, take, get_or, subst, sym, ap, arith, Some}
use Rattle.std.specs.Cmp.{unsigned_Decides}
use Rattle.std.proofs.lemmas.List.{take_all, take_more}
use Rattle.latches.specs.Latches.{clear_in}
use Rattle.tick_events.specs.Countdowns.{Countdown, whole}
use Rattle.tick_events.specs.Running.{IsRunning, kept_timer}
use Rattle.tick_events.proofs.Grouping.{AreGroups, no_groups, one_more, running, fresh_kept}
use Rattle.tick_events.proofs.clock.Clock.new.Goals as goal

pub loop-period-init : goal.loop-period-init
loop-period-init c = no_groups c.new-distinct.result.keys c.in_ok-groups.groups.items c.new-distinct.ensures.empty c.in_ok-groups.ensures.items

pub loop-period-preserved : goal.loop-period-preserved
loop-period-preserved c =
    let i = c.loop-period.period-index in
    let periods = c.args.periods.items in
    let keys = c.insert_full.new.self.keys in
    let same = c.deref-period-items.ensures.value in
    let within : i < length periods = omega arith in
    let period = get_or c.deref-period-items.result.now i 0 in
    let least : 1 ≤ period = subst (λ ps. 1 ≤ get_or ps i 0) (sym same) (c.requires i 0 within) in
    let stored = c.in_ok-group.ensures.stored in
    let found = stored.1 ∙ ap (λ p. Some p) (sym ((unsigned_Decides period stored.0).0 stored.2)) in
    subst (λ ps. AreGroups ps keys c.push.new.self.items) (ap (λ ps. take i periods ++ get_or ps i 0 ∷ []) same ∙ sym (take_more periods i 0 within))
    (subst (λ gs. AreGroups (take i periods ++ period ∷ []) keys gs) (sym c.in_ok-push.ensures.items)
    (one_more (take i periods) c.loop-period.distinct.keys keys c.loop-period.groups.items period c.in_ok-group.group _ least c.loop-period.invariant c.in_ok-group.ensures.keys found))

pub invariant_of-result : goal.invariant_of-result
invariant_of-result c =
    let keys = c.loop-period.distinct.keys in
    let groups = c.loop-period.groups.items in
    let whole_of = c.in_ok-countdowns.ensures ∙ ap (map whole) (c.in_ok-from_slice.ensures.items ∙ c.as_slice-2.ensures.keys) in
    let clear = c.in_ok-pending.ensures ∙ ap (map clear_in) c.as_slice.ensures.value in
    subst (λ cs. IsRunning cs c.in_ok-pending.pending) (sym whole_of) (subst (IsRunning (map whole keys)) (sym clear) (running _ keys groups c.loop-period.invariant))

pub returns : goal.returns
returns c =
    let keys = c.loop-period.distinct.keys in
    let groups = c.loop-period.groups.items in
    let periods = c.args.periods.items in
    let past : length periods ≤ c.loop-period.period-index = omega (arith, c.loop-period-test.false, ap length c.deref-period-items.ensures.value) in
    let whole_of = c.in_ok-countdowns.ensures ∙ ap (map whole) (c.in_ok-from_slice.ensures.items ∙ c.as_slice-2.ensures.keys) in
    let clear = c.in_ok-pending.ensures ∙ ap (map clear_in) c.as_slice.ensures.value in
    let timers = ap (λ (cs : List Countdown). map (kept_timer cs) c.in_ok-pending.pending) whole_of ∙ ap (map (kept_timer (map whole keys))) clear ∙ fresh_kept periods keys groups (subst (λ ps. AreGroups ps keys groups) (take_all c.loop-period.period-index periods past) c.loop-period.invariant) in
    λ i. record { timers = timers i; unstarted = c.in_ok-unstarted.ensures.items_if_clones_equal (λ y same. same) i }
