use Rattle.composition_flatten.proofs.Limiting.{within_is}
use Rattle.composition_flatten.proofs.limits.parts_within.Goals as goal

pub returns-in-Some-clause-some : goal.returns-in-Some-clause-some
returns-in-Some-clause-some c = within_is c.args.d.now c.in_ok-joins.field-0 c.in-Some.joins c.in_ok-instances.instances c.in_ok-keeps_counts.field-0 c.in_ok-keeps_counts.ensures c.if-not-branch.false c.in_ok-instances.ensures c.in-Some.is c.in_ok-joins.ensures.some
