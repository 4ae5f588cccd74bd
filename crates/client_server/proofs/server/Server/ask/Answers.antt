use Rattle.std.proofs.Common.{◌≡◌, ◌<◌, sym, ◌∙◌, ap, subst, length, get_or, set, true, refl, arith}
use Rattle.std.proofs.lemmas.List.{get_or_read}
use Rattle.client_server.specs.Asked.{AreAsked}
use Rattle.client_server.specs.Kept.{Kept}
use Rattle.client_server.specs.Points.{is_idle, new_point}
use Rattle.client_server.specs.Queue.{has_place_in, waiting_in}
use Rattle.client_server.specs.declared.point.Point.{Point}
use Rattle.client_server.specs.declared.point.Stage.TheVariants.{Asked}
use Rattle.client_server.proofs.Asked.{queued}
use Rattle.client_server.proofs.server.Server.ask.Goals as goal

pub invariant_of-self-2 : goal.invariant_of-self-2
invariant_of-self-2 c =
    let points = c.self.inside.points.items in
    let p = c.args.point in
    let asked : Point = record { stage = Asked c.args.value.now; due = c.index_mut.result.now.due } in
    let within : p < length points = omega (arith, c.requires, ap (λ (k : Kept). length k.points) c.self.view_is) in
    let idle : is_idle (get_or points p new_point).stage ≡ true =
    ap (λ (x : Point). is_idle x.stage) (sym (get_or_read points p c.index.result.now within c.index.ensures new_point)) ∙ sym c.is_idle.ensures ∙ c.if-not-is_idle.false in
    let place : has_place_in c.self.inside.waiting ≡ true = sym c.queue_up.ensures.answer ∙ c.if-not-queue_up.false in
    subst (λ w. AreAsked (set points p asked) (waiting_in w)) (sym c.queue_up.ensures.kept) (queued points p asked c.self.inside.waiting within idle refl place c.self.invariant)
