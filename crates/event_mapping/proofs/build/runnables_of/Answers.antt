use Rattle.std.proofs.Common.{List, map, sym, ap, subst, ◌∙◌}
use Rattle.bus_semantics.specs.declared.plan.RunnablePlan.{RunnablePlan}
use Rattle.bus_semantics.specs.Common.{HaveOneCode, runnable_of}
use Rattle.event_mapping.proofs.build.runnables_of.Goals as goal

pub returns-clause-listed : goal.returns-clause-listed
returns-clause-listed c = ap (map runnable_of) c.of.ensures ∙ c.in_ok-list.ensures.listed

pub returns-clause-coded : goal.returns-clause-coded
returns-clause-coded c = subst (λ (rs : List RunnablePlan). HaveOneCode rs) (sym c.of.ensures) c.in_ok-list.ensures.coded
