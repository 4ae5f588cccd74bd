use Rattle.std.proofs.Common.{sym, ◌∙◌}
use Rattle.bus_semantics.specs.declared.plan.BusPlan.{BusPlan}
use Rattle.plan_definitions.specs.Common.{plan_of, IsOfLists}
use Rattle.event_mapping.proofs.Sized.{same_size}
use Rattle.event_mapping.proofs.Telling.{size_kept, size_refused}
use Rattle.event_mapping.proofs.check.sized.Goals as goal

pub returns-then-are_too_large : goal.returns-then-are_too_large
returns-then-are_too_large c =
    let d = c.args.source.now.d.now in
    let f = c.args.source.now.f.now in
    record {
      refusal = size_refused BusPlan (plan_of d f) (IsOfLists d) c.size_refusal.result (sym (same_size d f c.args.pieces c.requires.pieces) ∙ (sym c.are_too_large.ensures ∙ c.if-are_too_large.true)) c.size_refusal.ensures;
      plan = tt;
    }

pub returns : goal.returns
returns c =
    let d = c.args.source.now.d.now in
    let f = c.args.source.now.f.now in
    record {
      refusal = size_kept (plan_of d f) (IsOfLists d) c.coherent_plan.result (sym (same_size d f c.args.pieces c.requires.pieces) ∙ (sym c.are_too_large.ensures ∙ c.if-are_too_large.false)) c.coherent_plan.ensures.lists;
      plan = c.coherent_plan.ensures.plan;
    }
