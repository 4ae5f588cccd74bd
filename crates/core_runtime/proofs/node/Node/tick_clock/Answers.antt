use Rattle.std.proofs.Common.{refl, sym, ◌∙◌, ap, subst, arith, inr, None, Some}
use Rattle.bus_semantics.specs.Common.{clock, entries_of, plan_of, same_Some, to_tick, vec_capacity}
use Rattle.bus_semantics.specs.declared.entries.Actor.TheVariants.{Env}
use Rattle.port_objects.specs.Common.{tick_of_env}
use Rattle.core_runtime.specs.Common.{NodeState, IsLawfulNode, IsNode, IsAfter, IsWatch}
use Rattle.core_runtime.proofs.Areas.{still_waiting}
use Rattle.core_runtime.proofs.Outside.{is_there, is_planned, lawful_on, node_then, touches_then}
use Rattle.core_runtime.proofs.Ticking.{ticked, put_back}
use Rattle.core_runtime.proofs.Watched.{seats_there}
use Rattle.core_runtime.proofs.node.Node.tick_clock.Goals as goal

pub object_of-requires : goal.object_of-requires
object_of-requires c = record { within = c.sound_plans_have_objects.ensures.touched (plan_of c.self.inside.plan) c.self.inside.mapping Env to_tick c.self.invariant.0.sound refl }

pub index_mut-requires : goal.index_mut-requires
index_mut-requires c =
    let within = is_there to_tick c.self.invariant.0 refl c.in-Some.ensures c.sound_plans_have_objects.ensures.touched in
    omega (arith, within)

pub tick-requires : goal.tick-requires
tick-requires c = record { planned = is_planned to_tick c.self.invariant.0 refl c.in-Some.ensures c.sound_plans_have_objects.ensures.touched c.index_mut.result.now c.index_mut.ensures.value }

pub wake_ticked-requires : goal.wake_ticked-requires
wake_ticked-requires c =
    let n = c.self.inside in
    record { there = seats_there (plan_of n.plan) n.bodies n.live.objects.items n.live.cores.items n.live.watch.awake.items n.live.watch.seats.items c.self.invariant.1.awake c.self.invariant.1.seated }

pub invariant_of-self : goal.invariant_of-self
invariant_of-self c =
    let p = plan_of c.self.inside.plan in
    let t = c.self.inside.bodies in
    let cores = c.self.inside.live.cores.items in
    let objects = c.self.inside.live.objects.items in
    let watch = c.self.inside.live.watch in
    let watched : IsWatch p t objects (Some (clock p)) cores watch = record {
      awake = c.self.invariant.1.awake;
      waiting = still_waiting c.waiters_sleep_on.ensures.still p t objects (Some (clock p)) cores watch.awake.items c.self.invariant.1.waiting;
      seated = c.self.invariant.1.seated;
      behind = c.self.invariant.1.behind;
      starters = c.self.invariant.1.starters;
    } in
    let changed = touches_then to_tick c.self.invariant.0 refl c.in-Some.ensures c.sound_plans_have_objects.ensures.touched c.index_mut.result.now c.index_mut.ensures.value
    c.tick.new.object tick_of_env (c.tick.ensures.lead c.if-tick.true) in
    let is_after = subst (λ os. IsAfter p objects os ticked) (sym c.as_slice.ensures.value) (inr changed) in (
      node_then to_tick c.self.invariant.0 refl c.in-Some.ensures
          c.sound_plans_have_objects.ensures.touched c.index_mut.result.now c.index_mut.ensures.value
          c.what_comes_may_follow.ensures.entry c.cores_stand_beside_the_environment.ensures c.tick.new.object tick_of_env
          (λ h ask. c.tick.ensures.done c.self.inside.mapping (entries_of p h c.in-Some.number) ask c.if-tick.true) c.tick.ensures.planned,
      subst (λ os. IsWatch p t os None cores c.wake_ticked.new.w) c.as_slice.ensures.value
          (c.wake_ticked.ensures p t cores objects (same_Some _ _ c.in-Some.ensures) is_after watched),
    )

pub returns-then-tick-clause-lawful : goal.returns-then-tick-clause-lawful
returns-then-tick-clause-lawful c = λ yes h lawful.
    let p = plan_of c.self.inside.plan in
    lawful_on to_tick c.self.invariant.0 refl c.in-Some.ensures
    c.sound_plans_have_objects.ensures.touched c.index_mut.result.now c.index_mut.ensures.value
    c.what_comes_may_follow.ensures.entry c.cores_stand_beside_the_environment.ensures c.tick.new.object tick_of_env
    (λ h ask. c.tick.ensures.done c.self.inside.mapping (entries_of p h c.in-Some.number) ask c.if-tick.true) h
    (subst (λ (n : NodeState). IsLawfulNode n h) (sym c.self.view_is) lawful)

pub invariant_of-self-else-tick : goal.invariant_of-self-else-tick
invariant_of-self-else-tick c =
    let n = c.self.inside in
    let back = put_back n.live.objects.items c.in-Some.number c.index_mut.result.now c.tick.new.object (c.tick.ensures.same c.if-tick.false) c.index_mut.ensures.value in
    subst (λ os. IsNode (plan_of n.plan) n.mapping n.bodies n.live.cores.items os × IsWatch (plan_of n.plan) n.bodies os None n.live.cores.items n.live.watch) (sym back) c.self.invariant

pub returns-else-tick-clause-same : goal.returns-else-tick-clause-same
returns-else-tick-clause-same c = λ no.
    let n = c.self.inside in
    let back = put_back n.live.objects.items c.in-Some.number c.index_mut.result.now c.tick.new.object (c.tick.ensures.same c.if-tick.false) c.index_mut.ensures.value in
    ap (λ os. record { plan = n.plan; mapping = n.mapping; bodies = n.bodies; cores = n.live.cores.items; objects = os; entries = n.live.entries.items; spare = vec_capacity n.live.entries }) back ∙ c.self.view_is
