use Rattle.std.proofs.Common.{◌≡◌, length, sym, ◌∙◌, ap}
use Rattle.bus_semantics.specs.Common.{length-map, plan_of}
use Rattle.object_kinds.specs.Layout.{members_of}
use Rattle.data_objects.specs.Kept.{GroupState}
use Rattle.data_objects.specs.Layout.{initial_of}
use Rattle.data_objects.proofs.Acting.{receiver_within}
use Rattle.data_objects.proofs.group.Group.value.Goals as goal

pub fetch-requires : goal.fetch-requires
fetch-requires c =
    let p = plan_of c.args.p.now in
    let count : length c.self.inside.unqueued.inits ≡ length (members_of p c.args.group) =
    ap (λ (s : GroupState). length s.kept.unqueued.inits) c.self.view_is ∙ ap length c.requires.planned.inits ∙ length-map (members_of p c.args.group) (initial_of p) in
    receiver_within p c.args.group c.args.elem c.in-Some.receiver (length c.self.inside.unqueued.inits) (sym c.receiver.ensures ∙ c.in-Some.is) count
