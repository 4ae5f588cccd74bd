use Rattle.std.proofs.Common.{◌∙◌, arith, map}
use Rattle.plan_definitions.specs.Elements.{elem_seen}
use Rattle.event_mapping.proofs.Sized.{few_groups, few_objects}
use Rattle.event_mapping.proofs.build.whole_plan.Goals as goal

pub position-groups-requires : goal.position-groups-requires
position-groups-requires c = omega (arith, few_groups c.args.pieces c.requires.size, c.len.ensures)

pub object_count-objects-requires : goal.object_count-objects-requires
object_count-objects-requires c =
    let few = few_objects c.args.pieces c.requires.size (map elem_seen c.items-elements.result.now) c.items-2.result.now c.position-groups.result _ (c.position-groups.ensures ∙ c.len.ensures) c.in_ok-bundling.ensures.bundles in
    omega (arith, few, c.len-2.ensures, c.len-3.ensures, c.len-4.ensures, c.len-5.ensures)
