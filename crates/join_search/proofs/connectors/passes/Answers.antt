use Rattle.std.proofs.Common.{sym, ◌∙◌}
use Rattle.plan_definitions.specs.Interfaces.{are_compatible}
use Rattle.join_search.proofs.Passing.{among_passed}
use Rattle.join_search.proofs.connectors.passes.Goals as goal

pub returns-then-contains-clause-told : goal.returns-then-contains-clause-told
returns-then-contains-clause-told c = sym (among_passed (λ x. are_compatible c.args.judge.now.types.now x.0 x.1) c.args.passed.now.keys c.args.pair (sym c.contains.ensures ∙ c.if-contains.true) c.requires)
