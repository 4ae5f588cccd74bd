use Rattle.std.proofs.Common.{◌≡◌, ◌<◌, length, arith, sym, ◌∙◌, ap, Some}
use Rattle.bus_semantics.specs.Common.{slice_get, slice_get-get_or}
use Rattle.object_kinds.specs.Layout.{place}
use Rattle.object_kinds.proofs.Placing.{place_within}
use Rattle.server_objects.specs.Kept.{Kept, ServerState, awaited_at}
use Rattle.server_objects.proofs.Whole.{awaited_found}
use Rattle.server_objects.proofs.server_object.ServerObject.awaited_at.Goals as goal

pub index-requires : goal.index-requires
index-requires c =
    let returns = c.self.inside.returns.items in
    let there : place c.args.event returns ≡ Some c.in-Some.place = ap (place c.args.event) (sym c.as_slice.ensures.value) ∙ sym c.find.ensures ∙ c.in-Some.is in
    let within : c.in-Some.place < length returns = place_within c.args.event returns c.in-Some.place there in
    omega (arith, within, c.self.invariant.as_many, c.self.inside.awaited.ok)

pub returns-in-Some-clause-place : goal.returns-in-Some-clause-place
returns-in-Some-clause-place c =
    let returns = c.self.inside.returns.items in
    let awaited = c.self.inside.awaited.items in
    let there : place c.args.event returns ≡ Some c.in-Some.place = ap (place c.args.event) (sym c.as_slice.ensures.value) ∙ sym c.find.ensures ∙ c.in-Some.is in
    let within : c.in-Some.place < length returns = place_within c.args.event returns c.in-Some.place there in
    let inside : c.in-Some.place < length awaited = omega (arith, within, c.self.invariant.as_many) in
    let at : slice_get awaited c.in-Some.place ≡ Some c.index.result.now = slice_get-get_or awaited c.in-Some.place c.index.result.now inside ∙ ap (λ n. Some n) (sym c.index.ensures) in
    let kept : Kept = record { points = c.self.inside.points.items; event = c.self.inside.event; returns = returns; awaited = awaited; served = c.self.inside.server } in
    sym (awaited_found kept c.args.event c.in-Some.place c.index.result.now there at) ∙ ap (λ (z : ServerState). awaited_at z.kept c.args.event) c.self.view_is

pub returns-in-Some-clause-within : goal.returns-in-Some-clause-within
returns-in-Some-clause-within c =
    let returns = c.self.inside.returns.items in
    let awaited = c.self.inside.awaited.items in
    let there : place c.args.event returns ≡ Some c.in-Some.place = ap (place c.args.event) (sym c.as_slice.ensures.value) ∙ sym c.find.ensures ∙ c.in-Some.is in
    let within : c.in-Some.place < length returns = place_within c.args.event returns c.in-Some.place there in
    let inside : c.in-Some.place < length awaited = omega (arith, within, c.self.invariant.as_many) in
    let below = c.self.invariant.within c.in-Some.place c.index.result.now inside in
    let many : length c.args.self.now.kept.served.points ≡ length c.self.inside.points.items = sym (ap (λ (z : ServerState). length z.kept.served.points) c.self.view_is) ∙ c.self.invariant.many in
    omega (arith, below, many, c.index.ensures)
