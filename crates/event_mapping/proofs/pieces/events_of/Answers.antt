use Rattle.std.proofs.Common.{◌∙◌}
use Rattle.event_mapping.proofs.pieces.events_of.Goals as goal

pub returns : goal.returns
returns c = c.of.ensures ∙ c.in_ok-list.ensures
