use Rattle.std.proofs.Common.{◌∙◌}
use Rattle.join_search.proofs.Itself.{itself}
use Rattle.join_search.proofs.judge.Judge.are_compatible.Goals as goal

pub returns-then-provided-required : goal.returns-then-provided-required
returns-then-provided-required c = c.is_declared.ensures ∙ itself c.args.self.now.types.now c.args.provided c.args.required c.if-provided-required.true
