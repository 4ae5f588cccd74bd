use Rattle.plan_services.proofs.Few.{few_outer}
use Rattle.plan_services.proofs.callings.callings_of.Goals as goal

pub push_outer_ports-requires-clause-ports : goal.push_outer_ports-requires-clause-ports
push_outer_ports-requires-clause-ports c = few_outer c.args.d.now c.ports_of.result.now c.ports_of.ensures c.requires.parts
