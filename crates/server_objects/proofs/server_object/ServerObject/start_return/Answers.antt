use Rattle.std.proofs.Common.{◌≡◌, sym, ◌∙◌, ap, subst, Some}
use Rattle.object_kinds.specs.Common.{given}
use Rattle.server_objects.specs.Acting.{IsStart}
use Rattle.server_objects.specs.Kept.{Kept, ServerState, awaited_at}
use Rattle.server_objects.proofs.Acted.{state, return_start_leads, return_start_none}
use Rattle.server_objects.proofs.server_object.ServerObject.start_return.Goals as goal
use Rattle.server_objects.proofs.server_object.ServerObject.start_return.Goals.{then-start_return, else-start_return}

pub returns-after-start_return : goal.returns-after-start_return
returns-after-start_return c =
    let i = c.self.inside in
    let kept : Kept = record { points = i.points.items; event = i.event; returns = i.returns.items; awaited = i.awaited.items; served = i.server } in
    let new = state i.points.items i.event i.returns.items i.awaited.items c.start_return.new.self i.woken.items i.heard in
    let there : awaited_at kept c.args.event ≡ Some c.in-Some.place = ap (λ (z : ServerState). awaited_at z.kept c.args.event) c.self.view_is ∙ sym c.awaited_at.ensures.place ∙ c.in-Some.is in
    let apart : c.args.event ≡ i.event → ⊥ = λ same. c.requires (same ∙ ap (λ (z : ServerState). z.kept.event) c.self.view_is) in
    subst (λ old. IsStart c.args.own c.args.event old new (given c.if-start_return.result c.if-start_return.deed)) c.self.view_is
    (elim c.if-start_return.branch [
      | then-start_return w ↦ subst (IsStart c.args.own c.args.event (record { kept = kept; woken = i.woken.items; heard = i.heard }) new) (λ t. given (sym w.result-is t) (sym w.deed-is t))
          (return_start_leads kept c.start_return.new.self i.woken.items i.heard c.args.own c.args.event c.in-Some.place w.empty.result apart w.empty.ensures there (sym w.if-start_return.true ∙ c.start_return.ensures.pending) c.start_return.ensures.kept)
      | else-start_return w ↦ subst (IsStart c.args.own c.args.event (record { kept = kept; woken = i.woken.items; heard = i.heard }) new) (λ t. given (sym w.result-is t) (sym w.deed-is t))
          (return_start_none kept c.start_return.new.self i.woken.items i.heard c.args.own c.args.event c.in-Some.place apart there (sym w.if-start_return.false ∙ c.start_return.ensures.pending) c.start_return.ensures.kept)
    ])
