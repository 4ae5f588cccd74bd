use Rattle.std.proofs.Common.{◌≡◌, sym, subst, set, Some, arith}
use Rattle.std.specs.List.{slice_get}
use Rattle.client_server.specs.Asked.{AreAsked}
use Rattle.client_server.specs.Queue.{waiting_in}
use Rattle.client_server.specs.declared.point.Point.{Point}
use Rattle.client_server.specs.declared.point.Stage.TheVariants.{Started}
use Rattle.client_server.proofs.Asked.{first_asked, first_started}
use Rattle.client_server.proofs.server.Server.start.Goals as goal

pub index-requires : goal.index-requires
index-requires c =
    let points = c.self.inside.points in
    let p = c.in-Some.point in
    let first : slice_get (waiting_in c.self.inside.waiting) 0 ≡ Some p = sym c.in-Some.ensures.first in
    let was = first_asked points.items p (waiting_in c.self.inside.waiting) first c.self.invariant in
    omega (arith, was.within, points.ok)

pub invariant_of-self : goal.invariant_of-self
invariant_of-self c =
    let points = c.self.inside.points.items in
    let p = c.in-Some.point in
    let started : Point = record { stage = Started; due = c.index_mut.result.now.due } in
    let first : slice_get (waiting_in c.self.inside.waiting) 0 ≡ Some p = sym c.in-Some.ensures.first in
    subst (λ w. AreAsked (set points p started) (waiting_in w)) (sym c.take_first.ensures.kept) (first_started points p started c.self.inside.waiting first c.self.invariant)
