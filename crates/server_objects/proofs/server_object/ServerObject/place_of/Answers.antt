use Rattle.std.proofs.Common.{◌≡◌, length, sym, ◌∙◌, ap}
use Rattle.object_kinds.specs.Layout.{place}
use Rattle.server_objects.specs.Kept.{ServerState}
use Rattle.server_objects.proofs.Whole.{place_inside}
use Rattle.server_objects.proofs.server_object.ServerObject.place_of.Goals as goal

pub returns-clause-within : goal.returns-clause-within
returns-clause-within c =
    let points = c.self.inside.points.items in
    let many : length c.args.self.now.kept.served.points ≡ length points = sym (ap (λ (z : ServerState). length z.kept.served.points) c.self.view_is) ∙ c.self.invariant.many in
    place_inside c.find.result c.args.point points (length c.args.self.now.kept.served.points) (c.find.ensures ∙ ap (place c.args.point) c.as_slice.ensures.value) many
