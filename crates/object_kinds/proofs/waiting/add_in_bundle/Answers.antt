use Rattle.bus_semantics.specs.Plan.{plan_of, kind_of}
use Rattle.std.proofs.Common.{◌<◌, length, arith}
use Rattle.object_kinds.proofs.Events.{bundle_awaited}
use Rattle.object_kinds.proofs.waiting.add_in_bundle.Goals as goal

pub append_to-requires : goal.append_to-requires
append_to-requires c =
    let p = plan_of c.args.p.now in
    let within : c.in-Some.bundle < length p.bundles = bundle_awaited p (kind_of p c.args.event) c.awaited_bundle.result c.in-Some.bundle c.requires.bundles c.awaited_bundle.ensures c.in-Some.is in
    let same = c.requires.lists in
    omega arith
