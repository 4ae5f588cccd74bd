use Rattle.commands.proofs.OneVerdict.{one_verdict}
use Rattle.commands.proofs.laws.verdicts_are_one.Goals as goal

pub returns : goal.returns
returns c = one_verdict c.plans_are_one.ensures c.headers_are_one.ensures c.refusals_are_one.ensures c.no_refused_description_has_a_plan.ensures c.traces_have_one_verdict.ensures
