use Rattle.std.proofs.Common.{◌∙◌}
use Rattle.event_mapping.proofs.pieces.areas_of.Goals as goal

pub returns : goal.returns
returns c = c.of.ensures ∙ c.in_ok-list.ensures

pub areas_of_plan-requires : goal.areas_of_plan-requires
areas_of_plan-requires c = c.args.source.now.few.instances
