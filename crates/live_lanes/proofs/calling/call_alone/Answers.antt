use Rattle.std.proofs.Common.{◌≡◌, sym, subst, None}
use Rattle.bus_semantics.specs.declared.entries.Actor.TheVariants.{Env}
use Rattle.bus_semantics.specs.Common.{touched_by, plan_of, wanted_of}
use Rattle.core_lanes.proofs.Calls.{touches_none}
use Rattle.live_lanes.proofs.Called.{called_alone}
use Rattle.live_lanes.proofs.calling.call_alone.Goals as goal

pub stamp-requires-clause-alone : goal.stamp-requires-clause-alone
stamp-requires-clause-alone c =
    subst (λ q. touched_by q (record { entry = record { actor = Env; deed = c.deed_of.result }; event = None }) ≡ None) (sym c.requires.plan)
    (touches_none (plan_of c.args.p.now) c.requires.sound.0 (wanted_of c.args.wish.now) c.deed_of.result c.requires.sound.1 c.requires.fits c.requires.alone c.deed_of.ensures)

pub returns-clause-called : goal.returns-clause-called
returns-clause-called c =
    called_alone (plan_of c.args.p.now) c.requires.sound.0 (wanted_of c.args.wish.now) c.deed_of.result c.requires.sound.1 c.requires.fits c.requires.alone c.deed_of.ensures c.free_deeds_are_legal.ensures.answers
    c.args.bench.now c.stamp.new.self c.stamp.result c.stamp.ensures.stamped
