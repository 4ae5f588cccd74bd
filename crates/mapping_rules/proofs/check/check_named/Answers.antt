use Rattle.std.proofs.Common.{ap, option_map}
use Rattle.plan_definitions.specs.MappingRefusals.{mapped_text}
use Rattle.mapping_rules.proofs.check.check_named.Goals as goal

pub returns-then-are_named : goal.returns-then-are_named
returns-then-are_named c = ap (option_map (λ k. (25, mapped_text k))) (c.are_named.ensures c.if-are_named.true)
