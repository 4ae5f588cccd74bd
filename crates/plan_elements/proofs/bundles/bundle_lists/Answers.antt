use Rattle.std.proofs.Common.{◌∙◌, map}
use Rattle.plan_definitions.specs.Elements.{elem_seen}
use Rattle.plan_elements.proofs.Connecting.{few_leaders, few_numbers}
use Rattle.plan_elements.proofs.bundles.bundle_lists.Goals as goal

pub grouping_of-requires : goal.grouping_of-requires
grouping_of-requires c = few_leaders (map elem_seen c.args.elements.now) c.args.lists.now c.args.count _ c.ranges.count.fits (c.as_slice.ensures.value ∙ c.in_ok-leaders.ensures)

pub all_members-requires : goal.all_members-requires
all_members-requires c =
    few_numbers _ c.as_slice.result.now _ (few_leaders (map elem_seen c.args.elements.now) c.args.lists.now c.args.count _ c.ranges.count.fits (c.as_slice.ensures.value ∙ c.in_ok-leaders.ensures))
    (c.as_slice-2.ensures.value ∙ c.in_ok-grouping.ensures.numbers)
