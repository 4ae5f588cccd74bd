use Rattle.std.proofs.Common.{◌<◌, ◌∙◌, sym, length, arith}
use Rattle.machine_objects.proofs.gathering.add_event.Goals as goal

pub append_to-requires : goal.append_to-requires
append_to-requires c =
    let within : c.in-Some.machine < length c.args.p.now.machines = c.requires.theirs.within c.args.event c.in-Some.machine (sym c.machine_for.ensures ∙ c.in-Some.is) in
    let same = c.requires.lists in
    omega arith
