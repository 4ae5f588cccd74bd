use Rattle.std.proofs.Common.{List, sym, subst}
use Rattle.bus_semantics.specs.declared.plan.RunnablePlan.{RunnablePlan}
use Rattle.plan_definitions.specs.Coding.{AreCoded}
use Rattle.plan_definitions.proofs.Coding.{coded_none, one_code}
use Rattle.plan_services.proofs.runnables.runnable_plans.Goals as goal

pub push_instances-requires-clause-coded : goal.push_instances-requires-clause-coded
push_instances-requires-clause-coded c = subst (λ (rs : List RunnablePlan). AreCoded c.args.source.now.d.now rs) (sym c.new-list.ensures.items) (coded_none c.args.source.now.d.now)

pub returns-clause-coded : goal.returns-clause-coded
returns-clause-coded c = one_code c.args.source.now.d.now _ c.in_ok-push_instances.ensures.coded
