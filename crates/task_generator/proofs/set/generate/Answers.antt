use Rattle.std.proofs.Common.{◌≡◌, map, ap, ◌∙◌}
use Rattle.std.proofs.Math.Logic.{∥∥₁_elim}
use Rattle.std.specs.Prelude.{is_some}
use Rattle.bus_semantics.specs.declared.plan.EventPlan.{EventPlan}
use Rattle.bus_semantics.specs.Plan.{plan_of}
use Rattle.task_generator.specs.Shapes.{shape_of_body, shape_of}
use Rattle.task_generator.proofs.Promising.{wants_alike, asks_as_planned}
use Rattle.task_generator.proofs.OfSound.{bounded}
use Rattle.task_generator.proofs.set.generate.Goals as goal

pub bodies_of-requires-clause-bounded : goal.bodies_of-requires-clause-bounded
bodies_of-requires-clause-bounded c = bounded (plan_of c.args.p.now) c.args._m.now c.requires.sound

pub returns : goal.returns
returns c k r event point value answers at =
    let p = plan_of c.args.p.now in
    let disabled : c.of-2.result ≡ map (λ (v : EventPlan). is_some v.disabled) p.events = c.of-2.ensures ∙ c.in_ok-disabled.ensures ∙ ap (map (λ (v : EventPlan). is_some v.disabled)) c.items.ensures in
    ∥∥₁_elim c.args.p.now.coded (wants_alike _ _)
    (λ one.
    let bodies : map shape_of_body c.of.result ≡ map (shape_of p) p.runnables = ap (map shape_of_body) c.of.ensures ∙ c.in_ok-bodies.ensures one in
    asks_as_planned p c.args._m.now c.requires.sound (record { bodies = c.of.result; disabled = c.of-2.result }) bodies disabled k r event point value answers at)
