use Rattle.std.proofs.Common.{map, ap, ◌∙◌}
use Rattle.plan_definitions.specs.Common.{elem_seen, Instance}
use Rattle.event_mapping.proofs.pieces.items_of.Goals as goal

pub returns : goal.returns
returns c = record { names = c.in_ok-names.ensures ∙ (λ j. map (λ (i : Instance). i.path) (c.items.ensures j)); elements = ap (map elem_seen) c.of-elements.ensures ∙ c.in_ok-plans.ensures; groups = c.in_ok-lists.ensures }
