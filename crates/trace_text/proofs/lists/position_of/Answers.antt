use Rattle.std.proofs.Common.{sym, ◌∙◌, arith}
use Rattle.bus_semantics.specs.Plan.{plan_of}
use Rattle.trace_text.proofs.Places.{behind_first, nowhere}
use Rattle.trace_text.proofs.lists.position_of.Goals as goal

pub overflow_sub-result : goal.overflow_sub-result
overflow_sub-result c = omega (arith, behind_first (plan_of c.args.p.now) c.requires c.args.list c.in-Some.first (sym c.first_beside.ensures ∙ c.in-Some.is))

pub returns-in-Some : goal.returns-in-Some
returns-in-Some c = omega (arith, behind_first (plan_of c.args.p.now) c.requires c.args.list c.in-Some.first (sym c.first_beside.ensures ∙ c.in-Some.is))

pub returns-in-None : goal.returns-in-None
returns-in-None c = sym (nowhere (plan_of c.args.p.now) c.args.list (sym c.first_beside.ensures ∙ c.in-None.is))
