use Rattle.std.proofs.Common.{◌∙◌, ap, is_some, Some}
use Rattle.std.specs.List.{position_from}
use Rattle.plan_definitions.specs.Joined.{end_at}
use Rattle.mapping_rules.proofs.Ends.{outside_found, same_triple}
use Rattle.mapping_rules.proofs.joined.Outside.has.Goals as goal

pub returns : goal.returns
returns c = c.is_some.ensures ∙ ap is_some (c.find.ensures ∙ (λ j. position_from (same_triple (Some c.args.instance, c.args.port, c.args.item)) 0 (c.args.self.now.are_outside j)))
    ∙ outside_found (end_at (Some c.args.instance) c.args.port c.args.item) c.args.self.now.f.now.joins
