use Rattle.plan_definitions.specs.Callings.{callings}
use Rattle.plan_services.proofs.Few.{few_listed}
use Rattle.plan_services.proofs.listed_callings.Callings.of.Goals as goal

pub calls_of-requires : goal.calls_of-requires
calls_of-requires c = few_listed c.as_slice.result.now c.in_ok-list.list.items (callings c.args.d.now c.args.f.now) c.as_slice.ensures.value c.in_ok-list.ensures c.requires.points

pub left_of-requires : goal.left_of-requires
left_of-requires c = few_listed c.as_slice-2.result.now c.in_ok-list.list.items (callings c.args.d.now c.args.f.now) c.as_slice-2.ensures.value c.in_ok-list.ensures c.requires.points
