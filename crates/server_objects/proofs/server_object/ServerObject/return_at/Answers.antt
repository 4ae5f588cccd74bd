use Rattle.bus_semantics.specs.Common.{slice_get, slice_get-get_or}
use Rattle.std.proofs.Common.{◌≡◌, Some, ◌<◌, ◌++◌, [], ◌∷◌, true, arith, length, sym, ◌∙◌, ap, subst}
use Rattle.server_objects.specs.Acting.{ReturnLeads}
use Rattle.server_objects.specs.Kept.{Kept, ServerState, awaiting, has_next, told_where}
use Rattle.server_objects.proofs.Acted.{state}
use Rattle.server_objects.proofs.Whole.{returned, few_told}
use Rattle.server_objects.proofs.server_object.ServerObject.return_at.Goals as goal

pub index-point-requires : goal.index-point-requires
index-point-requires c =
    let i = c.self.inside in
    let within : c.args.place < length i.server.points = omega (arith, c.requires, ap (λ (z : ServerState). length z.kept.served.points) c.self.view_is) in
    omega (arith, within, c.self.invariant.many)

pub tell_returns-requires-clause-first : goal.tell_returns-requires-clause-first
tell_returns-requires-clause-first c = few_told c.has_next-had_next.result (has_next c.reply.new.self) c.self.inside.event c.tell_next.new.self.woken c.tell_next.ensures.woken

pub returns : goal.returns
returns c =
    let i = c.self.inside in
    let old = state i.points.items i.event i.returns.items i.awaited.items i.server i.woken.items i.heard in
    let had = c.has_next-had_next.ensures ∙ ap (λ (z : ServerState). has_next z.kept.served) (sym c.self.view_is) in
    let within : c.args.place < length i.server.points = omega (arith, c.requires, ap (λ (z : ServerState). length z.kept.served.points) c.self.view_is) in
    let inside : c.args.place < length i.points.items = omega (arith, within, c.self.invariant.many) in
    let at : slice_get i.points.items c.args.place ≡ Some c.index-point.result.now = slice_get-get_or i.points.items c.args.place c.index-point.result.now inside ∙ ap (λ n. Some n) (sym c.index-point.ensures) in
    subst (λ z. ReturnLeads c.args.code c.args.value.now z c.tell_returns.new.self c.args.place) c.self.view_is
    (returned old c.tell_returns.new.self c.args.place c.args.code c.args.value.now c.reply.new.self c.self.invariant.apart c.self.invariant.returns_rise within
    (sym c.reply.ensures.answer ∙ c.if-not-reply.false) c.reply.ensures.kept (c.tell_returns.ensures.kept ∙ c.tell_next.ensures.kept)
    (c.tell_returns.ensures.woken
    ∙ ap (λ (k : Kept). c.tell_next.new.self.woken ++ told_where c.is_return_due-was_due.result true (awaiting k.returns k.awaited c.args.place)) c.tell_next.ensures.kept
    ∙ ap (λ es. es ++ told_where c.is_return_due-was_due.result true (awaiting i.returns.items i.awaited.items c.args.place)) (c.tell_next.ensures.woken ∙ ap (λ b. told_where b (has_next c.reply.new.self) (i.event ∷ [])) had)
    ∙ ap (λ b. told_where (has_next i.server) (has_next c.reply.new.self) (i.event ∷ []) ++ told_where b true (awaiting i.returns.items i.awaited.items c.args.place)) c.is_return_due-was_due.ensures)
    (c.tell_returns.ensures.heard ∙ c.tell_next.ensures.heard ∙ sym at))
