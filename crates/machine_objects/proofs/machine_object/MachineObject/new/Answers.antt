use Rattle.std.proofs.Common.{◌≡◌, ◌≤◌, ◌+◌, true, false, sym, ◌∙◌, ap, subst, arith, length, map}
use Rattle.std.specs.Prelude.{filter, is_none}
use Rattle.bus_semantics.specs.Common.{list_all, vec_capacity, length-map, length-replicate, plan_of, kind_of, initial_of, first_machine}
use Rattle.rte_value.specs.declared.kinds.Step.TheVariants.{Entry}
use Rattle.mode_machine.specs.Common.{idle_dependency, Kept, never_owed, owed_by}
use Rattle.object_kinds.specs.Common.{place, is_rising}
use Rattle.object_kinds.proofs.Events.{events_rise, few_events}
use Rattle.machine_objects.specs.Layout.{owed_events, ack_events, disabled_events, disabling_modes, moment_at, may_disable, waits_for_end, waits_for_phase}
use Rattle.machine_objects.specs.Plans.{IsOfPlan}
use Rattle.machine_objects.proofs.Made.{owed_picked, acks_picked, disabled_picked, few_disabled, disabled_rise, lists_apart, made, opens_planned}
use Rattle.machine_objects.proofs.machine_object.MachineObject.new.Goals as goal

pub overflow_cast-len : goal.overflow_cast-len
overflow_cast-len c =
    let p = plan_of c.args.p.now in
    let acks : c.in_ok-acks.acks.items ≡ ack_events p c.args.machine = c.in_ok-acks.ensures ∙ ap (filter (λ e. waits_for_end c.args.machine (kind_of p e))) c.requires.mattering ∙ acks_picked p c.args.machine in
    let small : length c.in_ok-acks.acks.items ≤ length p.events = subst (λ es. length es ≤ length p.events) (sym acks) (few_events p (waits_for_end c.args.machine)) in
    grind (arith, c.len.ensures, c.in_ok-acks.acks.ok, c.requires.few_events)

pub make_machine-requires-clause-few_owed : goal.make_machine-requires-clause-few_owed
make_machine-requires-clause-few_owed c =
    let p = plan_of c.args.p.now in
    let owed : c.as_slice.result.now ≡ owed_events p c.args.machine = c.as_slice.ensures.value ∙ c.in_ok-owed.ensures ∙ ap (filter (λ e. waits_for_phase c.args.machine (kind_of p e))) c.requires.mattering ∙ owed_picked p c.args.machine in
    let small : length c.as_slice.result.now ≤ length p.events = subst (λ es. length es ≤ length p.events) (sym owed) (few_events p (waits_for_phase c.args.machine)) in
    let few = c.requires.few_events in
    omega arith

pub make_machine-requires-clause-few_disabled : goal.make_machine-requires-clause-few_disabled
make_machine-requires-clause-few_disabled c =
    let p = plan_of c.args.p.now in
    let disabled : c.as_slice-2.result.now ≡ disabled_events p c.args.machine = c.as_slice-2.ensures.value ∙ c.in_ok-disabled.ensures ∙ ap (filter (may_disable p c.args.machine)) c.requires.mattering ∙ disabled_picked p c.args.machine in
    let small : length c.as_slice-2.result.now ≤ length p.events = subst (λ es. length es ≤ length p.events) (sym disabled) (few_disabled p c.args.machine) in
    let few = c.requires.few_events in
    omega arith

pub invariant_of-result : goal.invariant_of-result
invariant_of-result c =
    let p = plan_of c.args.p.now in
    let m = c.args.machine in
    let owed : c.in_ok-owed.owed.items ≡ owed_events p m = c.in_ok-owed.ensures ∙ ap (filter (λ e. waits_for_phase m (kind_of p e))) c.requires.mattering ∙ owed_picked p m in
    let acks : c.in_ok-acks.acks.items ≡ ack_events p m = c.in_ok-acks.ensures ∙ ap (filter (λ e. waits_for_end m (kind_of p e))) c.requires.mattering ∙ acks_picked p m in
    let disabled : c.in_ok-disabled.disabled.items ≡ disabled_events p m = c.in_ok-disabled.ensures ∙ ap (filter (may_disable p m)) c.requires.mattering ∙ disabled_picked p m in
    let as_many_owed : length c.in_ok-made.made.owed ≡ length c.in_ok-owed.owed.items =
    ap (λ (k : Kept). length k.owed) c.in_ok-made.ensures
    ∙ length-map (map never_owed (map (moment_at p) c.as_slice.result.now)) (owed_by Entry (initial_of p m) (initial_of p m))
    ∙ length-map (map (moment_at p) c.as_slice.result.now) never_owed
    ∙ length-map c.as_slice.result.now (moment_at p)
    ∙ ap length c.as_slice.ensures.value in
    let as_many_acks : length c.in_ok-made.made.acks ≡ length c.in_ok-acks.acks.items = ap (λ (k : Kept). length k.acks) c.in_ok-made.ensures ∙ length-replicate c.len.result false ∙ c.len.ensures ∙ c.in_ok-acks.acks.ok.0 in
    let as_many_disabled : length c.in_ok-made.made.disablings ≡ length c.in_ok-disabled.disabled.items =
    ap (λ (k : Kept). length k.disablings) c.in_ok-made.ensures
    ∙ length-map (map (disabling_modes p) c.as_slice-2.result.now) idle_dependency
    ∙ length-map c.as_slice-2.result.now (disabling_modes p)
    ∙ ap length c.as_slice-2.ensures.value in
    let room : length c.in_ok-owed.owed.items + length c.in_ok-acks.acks.items ≤ vec_capacity c.in_ok-woken.woken = omega (arith, c.in_ok-woken.ensures.capacity, c.len-2.ensures, c.len-3.ensures, c.in_ok-owed.owed.ok, c.in_ok-acks.acks.ok) in (
      subst (λ es. is_rising es ≡ true) (sym owed) (events_rise p (waits_for_phase m)),
      subst (λ es. is_rising es ≡ true) (sym acks) (events_rise p (waits_for_end m)),
      subst (λ es. is_rising es ≡ true) (sym disabled) (disabled_rise p m),
      (λ i. list_all (λ e. is_none (place e (acks i))) (owed i)) ∙ lists_apart p m,
      as_many_owed,
      as_many_acks,
      as_many_disabled,
      room,
    )

pub returns-clause-kept : goal.returns-clause-kept
returns-clause-kept c =
    let p = plan_of c.args.p.now in
    let m = c.args.machine in
    let owed : c.in_ok-owed.owed.items ≡ owed_events p m = c.in_ok-owed.ensures ∙ ap (filter (λ e. waits_for_phase m (kind_of p e))) c.requires.mattering ∙ owed_picked p m in
    let acks : c.in_ok-acks.acks.items ≡ ack_events p m = c.in_ok-acks.ensures ∙ ap (filter (λ e. waits_for_end m (kind_of p e))) c.requires.mattering ∙ acks_picked p m in
    let disabled : c.in_ok-disabled.disabled.items ≡ disabled_events p m = c.in_ok-disabled.ensures ∙ ap (filter (may_disable p m)) c.requires.mattering ∙ disabled_picked p m in
    made p m c.in_ok-owed.owed.items c.in_ok-acks.acks.items c.in_ok-disabled.disabled.items c.len.result c.as_slice.result.now c.as_slice-2.result.now c.in_ok-made.made owed acks disabled (c.len.ensures ∙ c.in_ok-acks.acks.ok.0) c.as_slice.ensures.value c.as_slice-2.ensures.value c.in_ok-made.ensures

pub returns-clause-planned : goal.returns-clause-planned
returns-clause-planned c =
    let p = plan_of c.args.p.now in
    let m = c.args.machine in
    let owed : c.in_ok-owed.owed.items ≡ owed_events p m = c.in_ok-owed.ensures ∙ ap (filter (λ e. waits_for_phase m (kind_of p e))) c.requires.mattering ∙ owed_picked p m in
    let acks : c.in_ok-acks.acks.items ≡ ack_events p m = c.in_ok-acks.ensures ∙ ap (filter (λ e. waits_for_end m (kind_of p e))) c.requires.mattering ∙ acks_picked p m in
    let disabled : c.in_ok-disabled.disabled.items ≡ disabled_events p m = c.in_ok-disabled.ensures ∙ ap (filter (may_disable p m)) c.requires.mattering ∙ disabled_picked p m in
    subst (IsOfPlan p (first_machine p + m))
    (sym (made p m c.in_ok-owed.owed.items c.in_ok-acks.acks.items c.in_ok-disabled.disabled.items c.len.result c.as_slice.result.now c.as_slice-2.result.now c.in_ok-made.made owed acks disabled (c.len.ensures ∙ c.in_ok-acks.acks.ok.0) c.as_slice.ensures.value c.as_slice-2.ensures.value c.in_ok-made.ensures))
    (opens_planned p m c.requires.machine)
