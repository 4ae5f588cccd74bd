use Rattle.plan_numbers.proofs.Starting.{instances_fit}
use Rattle.plan_numbers.proofs.starts.starts_of.Goals as goal

pub sums_of_instances-requires-clause-few : goal.sums_of_instances-requires-clause-few
sums_of_instances-requires-clause-few c = instances_fit c.args.d.now c.args.f.now c.items-3.result.now c.args.count c.items-3.ensures c.requires.count c.requires.few
