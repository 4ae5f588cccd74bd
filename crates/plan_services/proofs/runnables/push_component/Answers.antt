use Rattle.std.proofs.Common.{List, Some, slice_get, sym, ap, ◌∙◌}
use Rattle.description_types.specs.declared.component.Runnable.{Runnable}
use Rattle.plan_definitions.proofs.Coding.{coded_there}
use Rattle.plan_services.proofs.runnables.push_component.Goals as goal

pub push_runnables-requires-clause-own : goal.push_runnables-requires-clause-own
push_runnables-requires-clause-own c m r here =
    coded_there c.args.source.now.d.now c.args.instance.now.component m c.args.component.now r c.requires.placed
    (ap (λ (rs : List Runnable). slice_get rs m) (sym c.items-runnables.ensures) ∙ here)
