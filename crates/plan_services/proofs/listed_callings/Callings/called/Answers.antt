use Rattle.std.proofs.Common.{◌∙◌}
use Rattle.plan_definitions.specs.Callings.{first_calling, is_calling}
use Rattle.plan_services.proofs.Pointing.{called_at}
use Rattle.plan_services.proofs.listed_callings.Callings.called.Goals as goal

pub returns : goal.returns
returns c = c.number.ensures ∙ called_at c.args.instance c.args.runnable c.args.port c.args.item c.self.inside.calls c.self.inside.list.items c.self.invariant.0
    ∙ (λ j. first_calling (is_calling (c.args.instance, c.args.runnable) c.args.port c.args.item) (c.self.view_is j))
