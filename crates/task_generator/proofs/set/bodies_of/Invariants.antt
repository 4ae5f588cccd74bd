use Rattle.std.proofs.Common.{◌≡◌, length, map, take}
use Rattle.bus_semantics.specs.declared.plan.RunnablePlan.{RunnablePlan}
use Rattle.bus_semantics.specs.Common.{HaveOneCode, plan_of, runnable_of}
use Rattle.task_generator.specs.Coded.{AreMade, HaveCodes}
use Rattle.task_generator.specs.Shapes.{shape_of_body, shape_of}
use Rattle.task_generator.proofs.set.bodies_of.Given as goal

abbrev pub invariant-loop-place : goal.invariant-loop-place
invariant-loop-place l = record {
  many : length l.bodies.items ≡ l.place;
  made : AreMade l.p l.made;
  codes : HaveOneCode l.p.runnables → HaveCodes l.p l.bodies.items;
  shapes : HaveOneCode l.p.runnables → map shape_of_body l.bodies.items ≡ map (λ (r : RunnablePlan). shape_of (plan_of l.p) (runnable_of r)) (take l.place l.p.runnables);
}
