use Rattle.std.proofs.Common.{◌≡◌, ◌⊎◌, inl, inr, length, sym, ◌∙◌, ap, subst}
use Rattle.bus_semantics.specs.Common.{History, plan_of, IsIdle}
use Rattle.core_runtime.specs.Common.{after, NodeState, IsLawfulNode, NothingMayCome}
use Rattle.core_runtime.proofs.Ending.{is_idle}
use Rattle.core_runtime.proofs.Rounded.{made_by, node_after, nothing_at_last}
use Rattle.core_runtime.proofs.node.Node.run_alone.Goals as goal

pub invariant_of-self : goal.invariant_of-self
invariant_of-self g c =
    let given = c.into_live.ensures in
    node_after c.self.invariant.0 c.replace-live.ensures.value c.new-round.ensures c.go_alone.ensures.later c.into_live.result given.cores given.objects given.entries given.planned given.watched

pub returns-clause-within : goal.returns-clause-within
returns-clause-within g c =
    let given = c.into_live.ensures in
    (made_by c.self.invariant.0 c.replace-live.ensures.value c.new-round.ensures c.go_alone.ensures.later c.into_live.result given.cores given.objects given.entries).within

pub returns-clause-stamps : goal.returns-clause-stamps
returns-clause-stamps g c =
    let given = c.into_live.ensures in
    (made_by c.self.invariant.0 c.replace-live.ensures.value c.new-round.ensures c.go_alone.ensures.later c.into_live.result given.cores given.objects given.entries).stamps

pub returns-clause-lawful : goal.returns-clause-lawful
returns-clause-lawful g c = λ h lawful.
    let given = c.into_live.ensures in
    (made_by c.self.invariant.0 c.replace-live.ensures.value c.new-round.ensures c.go_alone.ensures.later c.into_live.result given.cores given.objects given.entries).goes
    c.self.inside.mapping c.self.invariant.0.lawful.ready h (subst (λ (n : NodeState). IsLawfulNode n h) (sym c.self.view_is) lawful)

pub returns-clause-end : goal.returns-clause-end
returns-clause-end g c = ended c.go_alone.ensures.end
  where
    ended : (length c.go_alone.new.self.entries ≡ 1024) ⊎ NothingMayCome (plan_of c.go_alone.new.self.plan) c.go_alone.new.self.bodies c.go_alone.new.self.cores c.go_alone.new.self.objects
        → (length c.into_live.result.entries.items ≡ 1024) ⊎ ((h : History) → IsLawfulNode c.args.self.now h → IsIdle (plan_of c.args.self.now.plan) c.args.self.now.mapping (after c.into_live.result.entries.items h))
    ended (inl full) = inl (ap length c.into_live.ensures.entries ∙ full)
    ended (inr nothing) = inr (λ h lawful.
        let given = c.into_live.ensures in
        let made = made_by c.self.invariant.0 c.replace-live.ensures.value c.new-round.ensures c.go_alone.ensures.later c.into_live.result given.cores given.objects given.entries in
        subst (λ (n : NodeState). IsIdle (plan_of n.plan) n.mapping (after c.into_live.result.entries.items h)) c.self.view_is
        (is_idle c.nothing_now_is_rest_of_the_core.ensures c.resting_cores_are_at_rest.ensures.rest c.no_history_stalls.ensures.quiet
        (plan_of c.self.inside.plan) c.self.inside.mapping c.self.inside.bodies c.into_live.result.cores.items c.into_live.result.objects.items (after c.into_live.result.entries.items h)
        c.self.invariant.0.sound c.self.invariant.0.bodies (made.count ∙ c.self.invariant.0.cores_are)
        (made.goes c.self.inside.mapping c.self.invariant.0.lawful.ready h (subst (λ (n : NodeState). IsLawfulNode n h) (sym c.self.view_is) lawful))
        (nothing_at_last c.self.invariant.0 c.replace-live.ensures.value c.new-round.ensures c.go_alone.ensures.later c.into_live.result given.cores given.objects given.entries nothing)))
