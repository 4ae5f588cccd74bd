use Rattle.std.proofs.Common.{◌≡◌, ◌∙◌, List, subst}
use Rattle.bus_semantics.specs.Common.{position, runnable_of}
use Rattle.bus_semantics.specs.declared.plan.RunnablePlan.{RunnablePlan}
use Rattle.line_fields.specs.Named.{is_runnable}
use Rattle.line_fields.proofs.Found.{position-map}
use Rattle.line_fields.proofs.finding.runnable_named.Goals as goal

pub returns : goal.returns
returns c =
    subst (λ (rs : List RunnablePlan). c.place_of_runnable.result ≡ position (λ (r : RunnablePlan). is_runnable c.args.home c.args.name.now (runnable_of r)) rs) c.items.ensures c.place_of_runnable.ensures
    ∙ position-map (is_runnable c.args.home c.args.name.now) runnable_of c.args.p.now.runnables
