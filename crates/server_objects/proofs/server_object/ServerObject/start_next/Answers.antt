use Rattle.std.proofs.Common.{◌≡◌, ◌<◌, arith, length, sym, ◌∙◌, ap, subst, Some, None, is_some}
use Rattle.std.specs.Prelude.{IsSome, IfSome}
use Rattle.bus_semantics.specs.Common.{slice_get, slice_get-get_or}
use Rattle.client_server.specs.declared.point.Request.{Request}
use Rattle.object_kinds.specs.Common.{given}
use Rattle.server_objects.specs.Acting.{IsStart, StartLeads}
use Rattle.server_objects.specs.Kept.{Kept, ServerState}
use Rattle.server_objects.proofs.Acted.{state, next_leads, next_none, no_point}
use Rattle.server_objects.proofs.server_object.ServerObject.start_next.Goals as goal
use Rattle.server_objects.proofs.server_object.ServerObject.start_next.Goals.{in-Some, in-None}

pub returns : goal.returns
returns c =
    let i = c.self.inside in
    let kept : Kept = record { points = i.points.items; event = i.event; returns = i.returns.items; awaited = i.awaited.items; served = i.server } in
    let new = state i.points.items i.event i.returns.items i.awaited.items c.start.new.self i.woken.items i.heard in
    let same : c.args.event ≡ i.event = c.requires.event ∙ sym (ap (λ (z : ServerState). z.kept.event) c.self.view_is) in
    let queued : IsSome i.server.queue = subst (λ (z : ServerState). IsSome z.kept.served.queue) (sym c.self.view_is) c.requires.queued in
    let plain : c.args.own ≡ None = no_point c.args.own (sym c.if-is_some.ensures) in
    subst (λ own. IsStart own c.args.event c.args.self.now new (given c.match-start.result c.match-start.deed)) (sym plain)
    (subst (λ old. IsStart None c.args.event old new (given c.match-start.result c.match-start.deed)) c.self.view_is
    (elim c.match-start.branch [
      | in-Some w ↦
          let r = w.in-Some.request in
          let inside : r.point < length i.server.points = subst (λ o. IfSome o (λ (x : Request). x.point < length i.server.points)) w.in-Some.is c.start.ensures.within in
          let within : r.point < length i.points.items = omega (arith, inside, c.self.invariant.many) in
          let at : slice_get i.points.items r.point ≡ Some w.index.result.now = slice_get-get_or i.points.items r.point w.index.result.now within ∙ ap (λ n. Some n) (sym w.index.ensures) in
          subst (IsStart None c.args.event (record { kept = kept; woken = i.woken.items; heard = i.heard }) new) (λ t. given (sym w.result-is t) (sym w.deed-is t))
          (subst (StartLeads None c.args.event (record { kept = kept; woken = i.woken.items; heard = i.heard }) new) (sym w.fill_served_start.ensures)
          (next_leads kept c.start.new.self i.woken.items i.heard c.args.event r w.index.result.now same queued (sym w.in-Some.is ∙ c.start.ensures.answer) c.start.ensures.kept at))
      | in-None w ↦ subst (IsStart None c.args.event (record { kept = kept; woken = i.woken.items; heard = i.heard }) new) (λ t. given (sym w.result-is t) (sym w.deed-is t))
          (next_none kept c.start.new.self i.woken.items i.heard c.args.event same queued (sym c.start.ensures.variant ∙ ap is_some w.in-None.is) c.start.ensures.kept)
    ]))
