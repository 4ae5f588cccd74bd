use Rattle.std.proofs.Common.{◌≤◌, ◌*◌, ◌∙◌, sym, ap, subst, arith, length, None}
use Rattle.bus_semantics.specs.Common.{vec_capacity, plan_of}
use Rattle.core_runtime.specs.Common.{Live, NodeState, IsLawfulNode, IsNode, IsWatch}
use Rattle.core_runtime.proofs.Together.{on_ok, on_err, turned_on, same_on, node_now, room_on, ran_few, ran_goes}
use Rattle.core_runtime.proofs.node.Node.run_many.Goals as goal

pub turn_many-live-requires-clause-node : goal.turn_many-live-requires-clause-node
turn_many-live-requires-clause-node g c = λ κs within.
    let p = plan_of c.self.inside.plan in
    (c.self.inside.mapping, subst (λ (l : Live). IsNode p c.self.inside.mapping c.self.inside.bodies l.cores.items l.objects.items) (sym c.replace-live.ensures.value) c.self.invariant.0)

pub turn_many-live-requires-clause-watched : goal.turn_many-live-requires-clause-watched
turn_many-live-requires-clause-watched g c = λ κs within.
    let p = plan_of c.self.inside.plan in
    subst (λ (l : Live). IsWatch p c.self.inside.bodies l.objects.items None l.cores.items l.watch) (sym c.replace-live.ensures.value) c.self.invariant.1

pub turn_many-live-requires-clause-room : goal.turn_many-live-requires-clause-room
turn_many-live-requires-clause-room g c = λ κs within.
    let room : 1024 * c.self.inside.mapping.cores ≤ vec_capacity c.self.inside.live.entries = subst (λ (n : NodeState). 1024 * n.mapping.cores ≤ n.spare) (sym c.self.view_is) c.requires.spare in
    subst (λ (l : Live). 1024 * length l.cores.items ≤ vec_capacity l.entries) (sym c.replace-live.ensures.value) (omega (arith, room, c.self.invariant.0.cores_are))

pub invariant_of-self-2 : goal.invariant_of-self-2
invariant_of-self-2 g c = node_now c.turn_many-live.result.0 c.self.invariant.0 c.self.invariant.1 c.replace-live.ensures.value c.turn_many-live.result.1 c.turn_many-live.ensures.ran c.turn_many-live.ensures.same

pub returns-clause-spare : goal.returns-clause-spare
returns-clause-spare g c =
    room_on c.turn_many-live.result.0 c.self.invariant.0 c.self.invariant.1 c.replace-live.ensures.value c.turn_many-live.result.1 c.turn_many-live.ensures.ran c.turn_many-live.ensures.same ∙ ap (λ (n : NodeState). n.spare) c.self.view_is

pub returns-clause-unchanged : goal.returns-clause-unchanged
returns-clause-unchanged g c =
    on_err c.turn_many-live.result.1 (same_on c.turn_many-live.result.0 c.self.invariant.0 c.self.invariant.1 c.replace-live.ensures.value c.turn_many-live.result.1 c.turn_many-live.ensures.ran c.turn_many-live.ensures.same)
    (λ still. record {
      plan = ap (λ (n : NodeState). n.plan) c.self.view_is;
      mapping = ap (λ (n : NodeState). n.mapping) c.self.view_is;
      bodies = ap (λ (n : NodeState). n.bodies) c.self.view_is;
      cores = still.cores ∙ ap (λ (n : NodeState). n.cores) c.self.view_is;
      objects = still.objects ∙ ap (λ (n : NodeState). n.objects) c.self.view_is;
      entries = ap (λ v. v.items) still.entries ∙ ap (λ (n : NodeState). n.entries) c.self.view_is;
    })

pub returns-clause-few : goal.returns-clause-few
returns-clause-few g c =
    on_ok c.turn_many-live.result.1 (turned_on c.turn_many-live.result.0 c.self.invariant.0 c.self.invariant.1 c.replace-live.ensures.value c.turn_many-live.result.1 c.turn_many-live.ensures.ran c.turn_many-live.ensures.same)
    (λ turned. subst (λ (n : NodeState). length c.turn_many-live.result.0.entries.items ≤ 1024 * n.mapping.cores) c.self.view_is (ran_few c.self.invariant.0 turned.run))

pub returns-clause-within : goal.returns-clause-within
returns-clause-within g c =
    on_ok c.turn_many-live.result.1 (turned_on c.turn_many-live.result.0 c.self.invariant.0 c.self.invariant.1 c.replace-live.ensures.value c.turn_many-live.result.1 c.turn_many-live.ensures.ran c.turn_many-live.ensures.same) (λ turned. turned.run.within)

pub returns-clause-stamps : goal.returns-clause-stamps
returns-clause-stamps g c =
    on_ok c.turn_many-live.result.1 (turned_on c.turn_many-live.result.0 c.self.invariant.0 c.self.invariant.1 c.replace-live.ensures.value c.turn_many-live.result.1 c.turn_many-live.ensures.ran c.turn_many-live.ensures.same) (λ turned. turned.run.stamps)

pub returns-clause-lawful : goal.returns-clause-lawful
returns-clause-lawful g c =
    on_ok c.turn_many-live.result.1 (turned_on c.turn_many-live.result.0 c.self.invariant.0 c.self.invariant.1 c.replace-live.ensures.value c.turn_many-live.result.1 c.turn_many-live.ensures.ran c.turn_many-live.ensures.same)
    (λ turned h lawful. ran_goes c.self.invariant.0 turned.run h (subst (λ (n : NodeState). IsLawfulNode n h) (sym c.self.view_is) lawful))
