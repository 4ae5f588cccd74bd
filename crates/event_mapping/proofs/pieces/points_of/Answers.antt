use Rattle.std.proofs.Common.{map, ap, ◌∙◌}
use Rattle.plan_definitions.specs.Services.{point_of}
use Rattle.event_mapping.proofs.pieces.points_of.Goals as goal

pub returns : goal.returns
returns c = c.of.ensures ∙ c.in_ok-list.ensures ∙ ap (map (point_of c.args.source.now.d.now c.args.source.now.f.now)) (c.items.ensures ∙ c.requires)
