use Rattle.std.proofs.Common.{sym, ◌∙◌}
use Rattle.bus_semantics.specs.Common.{false≢true, plan_of, wanted_of}
use Rattle.core_lanes.proofs.Calls.{is_free_one}
use Rattle.live_lanes.proofs.calling.deed_of.Goals as goal

pub unreachable-requires : goal.unreachable-requires
unreachable-requires c =
    let free = is_free_one (plan_of c.args.p.now) c.requires.sound.0 c.requires.sound.1 (wanted_of c.args.wish.now) c.requires.fits c.requires.alone in
    false≢true (sym c.in-None.ensures ∙ free)
