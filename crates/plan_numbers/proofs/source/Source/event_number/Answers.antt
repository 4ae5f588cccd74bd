use Rattle.std.proofs.Common.{ap, ◌∙◌}
use Rattle.std.specs.List.{position_from}
use Rattle.std.specs.Option.{unwrap_or}
use Rattle.plan_definitions.specs.Keys.{same_pair}
use Rattle.plan_numbers.proofs.source.Source.event_number.Goals as goal

pub returns : goal.returns
returns c = c.number.ensures ∙ ap (λ keys. unwrap_or (position_from (same_pair (c.args.instance, c.args.position)) 0 keys) 0) c.args.self.now.paired.events
