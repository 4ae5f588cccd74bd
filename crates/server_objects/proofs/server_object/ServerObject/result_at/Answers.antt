use Rattle.std.proofs.Common.{sym, ◌∙◌, subst}
use Rattle.server_objects.specs.Acting.{IsTaken}
use Rattle.server_objects.specs.Kept.{Kept}
use Rattle.server_objects.proofs.Acted.{state, outcome_taken, nothing_there}
use Rattle.server_objects.proofs.server_object.ServerObject.result_at.Goals as goal
use Rattle.server_objects.proofs.server_object.ServerObject.result_at.Goals.{in-Some, in-None}

pub returns : goal.returns
returns c =
    let i = c.self.inside in
    let kept : Kept = record { points = i.points.items; event = i.event; returns = i.returns.items; awaited = i.awaited.items; served = i.server } in
    let new = state i.points.items i.event i.returns.items i.awaited.items c.result.new.self i.woken.items i.heard in
    subst (λ old. IsTaken old new c.args.place c.match-result.result) c.self.view_is
    (elim c.match-result.branch [
      | in-Some w ↦ subst (IsTaken (record { kept = kept; woken = i.woken.items; heard = i.heard }) new c.args.place) (sym w.result-is)
          (outcome_taken kept c.result.new.self i.woken.items i.heard c.args.place w.in-Some.outcome (sym w.in-Some.is ∙ c.result.ensures.answer) c.result.ensures.kept)
      | in-None w ↦ subst (IsTaken (record { kept = kept; woken = i.woken.items; heard = i.heard }) new c.args.place) (sym w.result-is)
          (nothing_there kept c.result.new.self i.woken.items i.heard c.args.place w.empty.result w.empty.ensures (sym w.in-None.is ∙ c.result.ensures.answer) c.result.ensures.kept)
    ])
