use Rattle.plan_elements.proofs.Few.{few_leaders}
use Rattle.plan_elements.proofs.groups.groups_over.Goals as goal

pub grouping_of-requires : goal.grouping_of-requires
grouping_of-requires c =
    few_leaders c.args.source.now.d.now c.args.source.now.f.now c.as_slice-2.result.now c.in_ok-leaders.leaders.items c.as_slice-2.ensures.value c.in_ok-leaders.ensures c.args.source.now.few
