use Rattle.std.proofs.Common.{sym, ◌∙◌, subst}
use Rattle.bus_semantics.specs.Common.{plan_of, IsIdle, IsQuiet}
use Rattle.core_runtime.specs.Common.{NodeState, IsLawfulNode, EachTakesOne}
use Rattle.core_runtime.proofs.Ending.{is_idle, is_quiet}
use Rattle.core_runtime.proofs.Rounded.{made_by, node_after, nothing_at_first, in_order}
use Rattle.core_runtime.proofs.pass.serial_pass.Goals as goal

pub invariant_of-n : goal.invariant_of-n
invariant_of-n c =
    let given = c.into_live.ensures in
    node_after c.n.invariant.0 c.replace-live.ensures.value c.new-round.ensures c.give_turns.ensures.later c.into_live.result given.cores given.objects given.entries given.planned given.watched

pub returns-clause-within : goal.returns-clause-within
returns-clause-within c =
    let given = c.into_live.ensures in
    (made_by c.n.invariant.0 c.replace-live.ensures.value c.new-round.ensures c.give_turns.ensures.later c.into_live.result given.cores given.objects given.entries).within

pub returns-clause-stamps : goal.returns-clause-stamps
returns-clause-stamps c =
    let given = c.into_live.ensures in
    (made_by c.n.invariant.0 c.replace-live.ensures.value c.new-round.ensures c.give_turns.ensures.later c.into_live.result given.cores given.objects given.entries).stamps

pub returns-clause-lawful : goal.returns-clause-lawful
returns-clause-lawful c = λ h lawful.
    let given = c.into_live.ensures in
    (made_by c.n.invariant.0 c.replace-live.ensures.value c.new-round.ensures c.give_turns.ensures.later c.into_live.result given.cores given.objects given.entries).goes
    c.n.inside.mapping c.n.invariant.0.lawful.ready h (subst (λ (n : NodeState). IsLawfulNode n h) (sym c.n.view_is) lawful)

pub returns-clause-rest : goal.returns-clause-rest
returns-clause-rest c = λ none h lawful.
    let nothing = nothing_at_first c.n.invariant.0 c.replace-live.ensures.value c.new-round.ensures c.give_turns.ensures.later (c.give_turns.ensures.rest (sym c.into_live.ensures.entries ∙ none)) in
    subst (λ (n : NodeState). IsIdle (plan_of n.plan) n.mapping h) c.n.view_is
    (is_idle c.nothing_now_is_rest_of_the_core.ensures c.resting_cores_are_at_rest.ensures.rest c.no_history_stalls.ensures.quiet
    (plan_of c.n.inside.plan) c.n.inside.mapping c.n.inside.bodies c.n.inside.live.cores.items c.n.inside.live.objects.items h
    c.n.invariant.0.sound c.n.invariant.0.bodies c.n.invariant.0.cores_are (subst (λ (n : NodeState). IsLawfulNode n h) (sym c.n.view_is) lawful) nothing)

pub returns-clause-quiet : goal.returns-clause-quiet
returns-clause-quiet c = λ none h lawful.
    let nothing = nothing_at_first c.n.invariant.0 c.replace-live.ensures.value c.new-round.ensures c.give_turns.ensures.later (c.give_turns.ensures.rest (sym c.into_live.ensures.entries ∙ none)) in
    subst (λ (n : NodeState). IsQuiet (plan_of n.plan) h) c.n.view_is
    (is_quiet c.nothing_now_is_rest_of_the_core.ensures c.resting_cores_are_at_rest.ensures.rest c.no_history_stalls.ensures.quiet
    (plan_of c.n.inside.plan) c.n.inside.mapping c.n.inside.bodies c.n.inside.live.cores.items c.n.inside.live.objects.items h
    c.n.invariant.0.sound c.n.invariant.0.bodies c.n.invariant.0.cores_are (subst (λ (n : NodeState). IsLawfulNode n h) (sym c.n.view_is) lawful) nothing)

pub returns-clause-order : goal.returns-clause-order
returns-clause-order c =
    let given = c.into_live.ensures in
    let live = c.into_live.result in
    subst (λ (n : NodeState). EachTakesOne (plan_of n.plan) n.bodies n.cores live.cores.items n.objects live.objects.items live.entries.items) c.n.view_is
    (in_order c.n.invariant.0 c.replace-live.ensures.value c.new-round.ensures c.give_turns.ensures.later live given.cores given.objects given.entries c.give_turns.ensures.order)
