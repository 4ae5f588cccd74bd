use Rattle.std.proofs.Common.{◌≡◌, sym, ◌∙◌, ap, subst, Some, None}
use Rattle.rte_value.specs.Values.{words_of}
use Rattle.object_kinds.specs.Common.{given}
use Rattle.object_kinds.proofs.Placing.{place_at}
use Rattle.server_objects.specs.Acting.{IsStart}
use Rattle.server_objects.specs.Kept.{Kept, ServerState}
use Rattle.server_objects.specs.Leading.{own_place}
use Rattle.server_objects.proofs.Acted.{state, direct_leads, direct_none, own_fits}
use Rattle.server_objects.proofs.server_object.ServerObject.start_directly.Goals as goal
use Rattle.server_objects.proofs.server_object.ServerObject.start_directly.Goals.{in-Some-start_direct, in-None-start_direct}

pub returns-after-start_direct : goal.returns-after-start_direct
returns-after-start_direct c =
    let i = c.self.inside in
    let kept : Kept = record { points = i.points.items; event = i.event; returns = i.returns.items; awaited = i.awaited.items; served = i.server } in
    let new = state i.points.items i.event i.returns.items i.awaited.items c.start_direct.new.self i.woken.items i.heard in
    let there : own_place kept c.args.own ≡ Some c.in-Some.place = ap (λ (z : ServerState). own_place z.kept c.args.own) c.self.view_is ∙ sym c.own_place.ensures.place ∙ c.in-Some.is in
    let same : c.args.event ≡ i.event = c.requires.event ∙ sym (ap (λ (z : ServerState). z.kept.event) c.self.view_is) in
    let direct : i.server.queue ≡ None = ap (λ (z : ServerState). z.kept.served.queue) c.self.view_is ∙ c.requires.direct in
    subst (λ old. IsStart c.args.own c.args.event old new (given c.match-start_direct.result c.match-start_direct.deed)) c.self.view_is
    (elim c.match-start_direct.branch [
      | in-Some-start_direct w ↦ subst (IsStart c.args.own c.args.event (record { kept = kept; woken = i.woken.items; heard = i.heard }) new) (λ t. given (sym w.result-is t) (sym w.deed-is t))
          (direct_leads kept c.start_direct.new.self i.woken.items i.heard c.args.own c.args.event c.in-Some.place w.in-Some-start_direct.value same direct there (sym w.in-Some-start_direct.is ∙ c.start_direct.ensures.answer) c.start_direct.ensures.kept
          (own_fits kept c.args.own c.args.event c.in-Some.place (words_of w.in-Some-start_direct.value) same there (λ q at. place_at q i.points.items c.in-Some.place at)))
      | in-None-start_direct w ↦ subst (IsStart c.args.own c.args.event (record { kept = kept; woken = i.woken.items; heard = i.heard }) new) (λ t. given (sym w.result-is t) (sym w.deed-is t))
          (direct_none kept c.start_direct.new.self i.woken.items i.heard c.args.own c.args.event c.in-Some.place same direct there (sym w.in-None-start_direct.is ∙ c.start_direct.ensures.answer) c.start_direct.ensures.kept)
    ])
