use Rattle.std.proofs.Common.{◌≡◌, ◌≤◌, sym, ◌∙◌, ap, subst, map, length, arith}
use Rattle.std.specs.Prelude.{All}
use Rattle.bus_semantics.specs.Common.{plan_of, kind_of, clock}
use Rattle.tick_events.specs.Kept.{fresh}
use Rattle.object_kinds.specs.Layout.{events_of}
use Rattle.object_kinds.proofs.Events.{few_events}
use Rattle.clock_objects.specs.Kept.{Kept, opening}
use Rattle.clock_objects.specs.Layout.{is_init, period_in}
use Rattle.clock_objects.specs.Plans.{IsOfPlan}
use Rattle.clock_objects.proofs.Opening.{clock_planned, opening_fits, periods_fit}
use Rattle.clock_objects.proofs.ticks.Ticks.new.Goals as goal

pub overflow_cast-len : goal.overflow_cast-len
overflow_cast-len c =
    let p = plan_of c.args.p.now in
    let few : length (events_of p is_init) ≤ length p.events = few_events p is_init in
    let small : length c.in_ok-inits.inits.items ≤ length p.events = subst (λ es. length es ≤ length p.events) (sym c.in_ok-inits.ensures) few in
    grind (arith, c.len.ensures, c.in_ok-inits.inits.ok, c.requires.few_events)

pub new-requires : goal.new-requires
new-requires c =
    let p = plan_of c.args.p.now in
    subst (λ ns. All (λ period. 1 ≤ period) ns)
    (sym (c.in_ok-periods.ensures ∙ ap (map (λ e. period_in (kind_of p e))) (c.as_slice.ensures.value ∙ c.in_ok-timings.ensures)))
    (periods_fit p c.requires.periods)

made : (c : goal.In_ok-woken) → ◌≡◌ {A = Kept} (record { timings = c.in_ok-timings.timings.items; inits = c.in_ok-inits.inits.items; clock = c.in_ok-clock.clock }) (opening (plan_of c.args.p.now))
made c =
    let p = plan_of c.args.p.now in
    let timings = c.in_ok-timings.ensures in
    let inits = c.in_ok-inits.ensures in
    let periods = c.in_ok-periods.ensures ∙ ap (map (λ e. period_in (kind_of p e))) (c.as_slice.ensures.value ∙ timings) in
    let count : c.len.result ≡ length (events_of p is_init) = c.len.ensures ∙ c.in_ok-inits.inits.ok.0 ∙ ap length inits in
    let clock = c.in_ok-clock.ensures ∙ (λ i. fresh (periods i) (count i)) in
    λ i. record { timings = timings i; inits = inits i; clock = clock i }

pub invariant_of-result : goal.invariant_of-result
invariant_of-result c =
    let fits = opening_fits (plan_of c.args.p.now) (record { timings = c.in_ok-timings.timings.items; inits = c.in_ok-inits.inits.items; clock = c.in_ok-clock.clock }) (made c) in
    (fits.0, fits.1, fits.2, fits.3, grind (arith, c.len-2.ensures, c.in_ok-timings.timings.ok, c.in_ok-woken.ensures.capacity))

pub returns-clause-kept : goal.returns-clause-kept
returns-clause-kept c = made c

pub returns-clause-planned : goal.returns-clause-planned
returns-clause-planned c = subst (IsOfPlan (plan_of c.args.p.now) (clock (plan_of c.args.p.now))) (sym (made c)) (clock_planned (plan_of c.args.p.now))
