use Rattle.std.proofs.Common.{◌≡◌, true, refl, sym, ◌∙◌, subst, arith, inr, None, ◌∷◌}
use Rattle.bus_semantics.specs.Common.{false≢true, wish_fits, entries_of, touched_by, plan_of, wanted_of}
use Rattle.bus_semantics.specs.declared.entries.Actor.TheVariants.{Env}
use Rattle.core_runtime.specs.Common.{NodeState, IsLawfulNode, IsAfter, IsWatch}
use Rattle.core_runtime.proofs.Areas.{still_waiting}
use Rattle.core_lanes.proofs.Calls.{never_held, is_free_one}
use Rattle.core_runtime.proofs.Outside.{lawful_beside, touches_one, is_there, is_planned, may_ask, lawful_on, node_then, touches_then, within_then}
use Rattle.core_runtime.proofs.node.Node.environment.Goals as goal

pub object_of-requires : goal.object_of-requires
object_of-requires c =
    let fit = subst (λ (n : NodeState). wish_fits (plan_of n.plan) Env (wanted_of c.args.wish.now) ≡ true) (sym c.self.view_is) c.requires.fits in
    record { within = c.sound_plans_have_objects.ensures.touched (plan_of c.self.inside.plan) c.self.inside.mapping Env (wanted_of c.args.wish.now) c.self.invariant.0.sound fit }

pub index_mut-requires : goal.index_mut-requires
index_mut-requires c =
    let fit = subst (λ (n : NodeState). wish_fits (plan_of n.plan) Env (wanted_of c.args.wish.now) ≡ true) (sym c.self.view_is) c.requires.fits in
    let within = is_there (wanted_of c.args.wish.now) c.self.invariant.0 fit c.in-Some.ensures c.sound_plans_have_objects.ensures.touched in
    omega (arith, within)

pub act_in_place-requires-clause-planned : goal.act_in_place-requires-clause-planned
act_in_place-requires-clause-planned c =
    let fit = subst (λ (n : NodeState). wish_fits (plan_of n.plan) Env (wanted_of c.args.wish.now) ≡ true) (sym c.self.view_is) c.requires.fits in
    is_planned (wanted_of c.args.wish.now) c.self.invariant.0 fit c.in-Some.ensures c.sound_plans_have_objects.ensures.touched c.index_mut.result.now c.index_mut.ensures.value

pub act_in_place-requires-clause-fits : goal.act_in_place-requires-clause-fits
act_in_place-requires-clause-fits c = subst (λ (n : NodeState). wish_fits (plan_of n.plan) Env (wanted_of c.args.wish.now) ≡ true) (sym c.self.view_is) c.requires.fits

pub unreachable-requires : goal.unreachable-requires
unreachable-requires c =
    let fit = subst (λ (n : NodeState). wish_fits (plan_of n.plan) Env (wanted_of c.args.wish.now) ≡ true) (sym c.self.view_is) c.requires.fits in
    let p = plan_of c.self.inside.plan in
    let w = wanted_of c.args.wish.now in
    let ask =
    may_ask w c.self.invariant.0 fit c.in-Some.ensures
    c.sound_plans_have_objects.ensures.touched c.index_mut.result.now c.index_mut.ensures.value c.self.invariant.0.history c.self.invariant.0.lawful in
    let past = entries_of p c.self.invariant.0.history c.in-Some.object in
    let comes = c.calls_come.ensures.always p c.self.inside.mapping Env c.args.wish.now past
    (record { sound = ask.sound; fits = ask.fits; own = ask.own; touching = touches_one w c.self.invariant.0 fit c.in-Some.ensures; past = ask.stands.past })
    (never_held p w fit) in
    c.in-NotYet.ensures.not_yet c.self.inside.mapping past _ ask refl comes.entry comes.comes

pub unreachable-requires-in-None-free_deed : goal.unreachable-requires-in-None-free_deed
unreachable-requires-in-None-free_deed c =
    let fit = subst (λ (n : NodeState). wish_fits (plan_of n.plan) Env (wanted_of c.args.wish.now) ≡ true) (sym c.self.view_is) c.requires.fits in
    let free = is_free_one (plan_of c.self.inside.plan) c.self.inside.mapping c.self.invariant.0.sound (wanted_of c.args.wish.now) fit (sym c.in-None.ensures) in
    false≢true (sym c.in-None-free_deed.ensures ∙ free)

pub wake_after-requires-clause-watched : goal.wake_after-requires-clause-watched
wake_after-requires-clause-watched c = (c.self.inside.bodies, c.self.inside.live.cores.items, c.self.inside.live.objects.items, c.self.invariant.1.awake, c.self.invariant.1.seated)

pub wake_after-requires-clause-within : goal.wake_after-requires-clause-within
wake_after-requires-clause-within c =
    let fit = subst (λ (n : NodeState). wish_fits (plan_of n.plan) Env (wanted_of c.args.wish.now) ≡ true) (sym c.self.view_is) c.requires.fits in
    within_then (wanted_of c.args.wish.now) c.self.invariant.0 fit c.in-Some.ensures c.sound_plans_have_objects.ensures.touched c.index_mut.result.now c.index_mut.ensures.value c.act_in_place.new.object c.act_in_place.new.out c.in-Done.ensures.lead

pub invariant_of-self : goal.invariant_of-self
invariant_of-self c =
    let fit = subst (λ (n : NodeState). wish_fits (plan_of n.plan) Env (wanted_of c.args.wish.now) ≡ true) (sym c.self.view_is) c.requires.fits in
    let p = plan_of c.self.inside.plan in
    let t = c.self.inside.bodies in
    let cores = c.self.inside.live.cores.items in
    let objects = c.self.inside.live.objects.items in
    let watch = c.self.inside.live.watch in
    let touched = touched_by p (record { entry = c.act_in_place.new.out; event = None }) in
    let watched : IsWatch p t objects touched cores watch = record {
      awake = c.self.invariant.1.awake;
      waiting = still_waiting c.waiters_sleep_on.ensures.still p t objects touched cores watch.awake.items c.self.invariant.1.waiting;
      seated = c.self.invariant.1.seated;
      behind = c.self.invariant.1.behind;
      starters = c.self.invariant.1.starters;
    } in
    let changed = touches_then (wanted_of c.args.wish.now) c.self.invariant.0 fit c.in-Some.ensures c.sound_plans_have_objects.ensures.touched c.index_mut.result.now c.index_mut.ensures.value c.act_in_place.new.object c.act_in_place.new.out c.in-Done.ensures.lead in
    let is_after = subst (λ os. IsAfter p objects os (record { entry = c.act_in_place.new.out; event = None })) (sym c.as_slice.ensures.value) (inr changed) in (
      node_then (wanted_of c.args.wish.now) c.self.invariant.0 fit c.in-Some.ensures
          c.sound_plans_have_objects.ensures.touched c.index_mut.result.now c.index_mut.ensures.value
          c.what_comes_may_follow.ensures.entry c.cores_stand_beside_the_environment.ensures c.act_in_place.new.object c.act_in_place.new.out
          (λ h ask. c.in-Done.ensures.done c.self.inside.mapping (entries_of (plan_of c.self.inside.plan) h c.in-Some.object) ask refl) c.in-Done.ensures.planned,
      subst (λ os. IsWatch p t os None cores c.wake_after.new.w) c.as_slice.ensures.value (c.wake_after.ensures t cores objects is_after watched),
    )

pub returns-in-Done-clause-lawful : goal.returns-in-Done-clause-lawful
returns-in-Done-clause-lawful c = λ h lawful.
    let fit = subst (λ (n : NodeState). wish_fits (plan_of n.plan) Env (wanted_of c.args.wish.now) ≡ true) (sym c.self.view_is) c.requires.fits in
    lawful_on (wanted_of c.args.wish.now) c.self.invariant.0 fit c.in-Some.ensures
    c.sound_plans_have_objects.ensures.touched c.index_mut.result.now c.index_mut.ensures.value
    c.what_comes_may_follow.ensures.entry c.cores_stand_beside_the_environment.ensures c.act_in_place.new.object c.act_in_place.new.out
    (λ h ask. c.in-Done.ensures.done c.self.inside.mapping (entries_of (plan_of c.self.inside.plan) h c.in-Some.object) ask refl) h
    (subst (λ (n : NodeState). IsLawfulNode n h) (sym c.self.view_is) lawful)

pub returns-in-Some-free_deed-clause-lawful : goal.returns-in-Some-free_deed-clause-lawful
returns-in-Some-free_deed-clause-lawful c = λ h lawful.
    let fit = subst (λ (n : NodeState). wish_fits (plan_of n.plan) Env (wanted_of c.args.wish.now) ≡ true) (sym c.self.view_is) c.requires.fits in
    subst (λ (n : NodeState). IsLawfulNode n (record { actor = Env; deed = c.in-Some-free_deed.deed } ∷ h)) c.self.view_is
    (lawful_beside (wanted_of c.args.wish.now) c.in-Some-free_deed.deed c.self.invariant.0 fit (sym c.in-None.ensures) c.in-Some-free_deed.ensures
    c.free_deeds_are_legal.ensures.answers c.cores_stand_beside_the_environment.ensures h (subst (λ (n : NodeState). IsLawfulNode n h) (sym c.self.view_is) lawful))
