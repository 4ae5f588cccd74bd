use Rattle.std.proofs.Common.{◌<◌, length, arith}
use Rattle.bus_semantics.specs.Plan.{plan_of, kind_of}
use Rattle.server_objects.proofs.Whole.{awaited_inside}
use Rattle.server_objects.proofs.gathering.add_return.Goals as goal

pub append_to-requires : goal.append_to-requires
append_to-requires c =
    let p = plan_of c.args.p.now in
    let within : c.in-Some.server < length p.servers = awaited_inside p (kind_of p c.args.event) c.awaited_server.result c.in-Some.server c.awaited_server.ensures c.requires.joined c.in-Some.is in
    let same = c.requires.lists in
    omega arith
