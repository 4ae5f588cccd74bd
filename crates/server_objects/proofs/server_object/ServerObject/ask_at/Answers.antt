use Rattle.std.proofs.Common.{[], ◌∷◌, sym, ◌∙◌, ap, subst}
use Rattle.server_objects.specs.Acting.{IsAskedAt}
use Rattle.server_objects.specs.Kept.{ServerState, has_next, told_where}
use Rattle.server_objects.proofs.Acted.{state}
use Rattle.server_objects.proofs.Whole.{asked}
use Rattle.server_objects.proofs.server_object.ServerObject.ask_at.Goals as goal

pub returns : goal.returns
returns c =
    let i = c.self.inside in
    let old = state i.points.items i.event i.returns.items i.awaited.items i.server i.woken.items i.heard in
    let had = c.has_next-had_next.ensures ∙ ap (λ (z : ServerState). has_next z.kept.served) (sym c.self.view_is) in
    subst (λ z. IsAskedAt c.args.value.now z c.tell_next.new.self c.args.place c.ask-code.result) c.self.view_is
    (asked old c.tell_next.new.self c.args.place c.ask-code.result c.args.value.now c.ask-code.new.self c.self.invariant.apart c.self.invariant.returns_rise c.ask-code.ensures.answer c.ask-code.ensures.kept
    c.tell_next.ensures.kept (c.tell_next.ensures.woken ∙ ap (λ b. told_where b (has_next c.ask-code.new.self) (i.event ∷ [])) had) c.tell_next.ensures.heard)
