use Rattle.std.proofs.Common.{◌∙◌, Some}
use Rattle.std.specs.Map.{lookup}
use Rattle.plan_definitions.specs.Joined.{end_at}
use Rattle.mapping_rules.proofs.Ends.{provider_found, same_triple}
use Rattle.mapping_rules.proofs.joined.Providers.provider_of.Goals as goal

pub returns : goal.returns
returns c = c.find.ensures ∙ (λ j. lookup (same_triple (Some c.args.instance, c.args.port, c.args.item)) (c.args.self.now.are_providers j))
    ∙ provider_found (end_at (Some c.args.instance) c.args.port c.args.item) c.args.self.now.f.now.joins
