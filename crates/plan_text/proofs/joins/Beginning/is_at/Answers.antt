use Rattle.std.proofs.Common.{sym, ◌∙◌}
use Rattle.plan_text.proofs.Places.{same_place}
use Rattle.plan_text.proofs.joins.Beginning.is_at.Goals as goal

pub returns : goal.returns
returns c = λ t. same_place c.args.self.now.place c.args.place (sym c.eq.ensures ∙ t)
