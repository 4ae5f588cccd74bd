use Rattle.std.proofs.Common.{arith}
use Rattle.plan_services.proofs.Few.{few_operations}
use Rattle.plan_services.proofs.callings.push_outer_port.Goals as goal

pub position-count-requires : goal.position-count-requires
position-count-requires c = omega (arith, c.operations_at.ensures, few_operations c.args.d.now c.args.port.now c.requires.items)
