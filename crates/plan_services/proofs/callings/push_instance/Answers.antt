use Rattle.std.proofs.Common.{ap, option_copied, refl, sym, ◌∙◌}
use Rattle.plan_services.proofs.Few.{few_listed, few_runnables}
use Rattle.plan_services.proofs.callings.push_instance.Goals as goal

pub push_runnables-requires : goal.push_runnables-requires
push_runnables-requires c =
    let runnables = c.in-Some.component.now.behavior.runnables in
    few_listed c.items-runnables.result.now runnables runnables c.items-runnables.ensures refl
    (few_runnables c.args.d.now c.args.instance.now.component c.in-Some.component.now c.requires.parts (sym c.component_at.ensures ∙ ap option_copied c.in-Some.is))
