use Rattle.plan_elements.proofs.Few.{few_grouped}
use Rattle.plan_elements.proofs.groups.group_lists.Goals as goal

pub all_members-requires : goal.all_members-requires
all_members-requires c =
    few_grouped c.args.source.now.d.now c.args.source.now.f.now c.as_slice.result.now c.args.groups.now.numbers.items c.as_slice.ensures.value c.requires.are_numbers c.args.source.now.few
