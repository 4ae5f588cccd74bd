use Rattle.std.proofs.Common.{◌∙◌}
use Rattle.plan_definitions.specs.Callings.{first_calling, leaves}
use Rattle.plan_services.proofs.Pointing.{left_at}
use Rattle.plan_services.proofs.listed_callings.Callings.left.Goals as goal

pub returns : goal.returns
returns c = c.number.ensures ∙ left_at c.args.instance c.args.port c.args.item c.self.inside.left c.self.inside.list.items c.self.invariant.1
    ∙ (λ j. first_calling (leaves c.args.instance c.args.port c.args.item) (c.self.view_is j))
