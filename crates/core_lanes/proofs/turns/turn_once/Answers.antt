use Rattle.std.proofs.Common.{sym, subst}
use Rattle.bus_semantics.specs.Plan.{plan_of}
use Rattle.core_lanes.specs.Rooms.{HasRoom}
use Rattle.core_lanes.proofs.Taken.{stepped_taken, none_taken, lost_taken, cleared_room}
use Rattle.core_lanes.proofs.Leaving.{nothing_said, another_held}
use Rattle.core_lanes.proofs.MergedTurns.{same_ready}
use Rattle.core_lanes.proofs.turns.turn_once.Goals as goal

pub returns-in-Stepped-clause-ready : goal.returns-in-Stepped-clause-ready
returns-in-Stepped-clause-ready c = λ m ready. same_ready (plan_of c.args.p.now) c.args.t.now c.turn.new.c c.clear.new.self (record { number = c.clear.ensures.number; slots = c.clear.ensures.slots }) m (c.in-Stepped.ensures.ready m ready)

pub returns-in-Stepped-clause-room : goal.returns-in-Stepped-clause-room
returns-in-Stepped-clause-room c =
    let turned = c.in-Stepped.ensures.turned in
    cleared_room (plan_of c.args.p.now) c.args.t.now c.args.core.now c.turn.new.c c.args.bench.now c.turn.new.b c.clear.new.self turned.0 turned.1 c.clear.ensures.trace c.clear.ensures.room

pub returns-in-Stepped-clause-taken : goal.returns-in-Stepped-clause-taken
returns-in-Stepped-clause-taken c =
    let turned = c.in-Stepped.ensures.turned in
    stepped_taken (plan_of c.args.p.now) c.args.t.now c.args.core.now c.turn.new.c c.args.bench.now c.turn.new.b c.clear.new.self turned.0 c.in-Stepped.ensures.ready turned.1.apart (record { number = c.clear.ensures.number; slots = c.clear.ensures.slots })

pub returns-in-NothingNow-clause-room : goal.returns-in-NothingNow-clause-room
returns-in-NothingNow-clause-room c = subst HasRoom (sym c.in-NothingNow.ensures.turned.same) c.requires.room

pub returns-in-NothingNow-clause-taken : goal.returns-in-NothingNow-clause-taken
returns-in-NothingNow-clause-taken c = none_taken (plan_of c.args.p.now) c.args.t.now c.args.core.now c.turn.new.c c.args.bench.now c.turn.new.b _ c.in-NothingNow.ensures.turned

pub returns-in-Contended-clause-room : goal.returns-in-Contended-clause-room
returns-in-Contended-clause-room c = subst HasRoom (sym c.in-Contended.ensures.turned.same) c.requires.room

pub returns-in-Contended-clause-taken : goal.returns-in-Contended-clause-taken
returns-in-Contended-clause-taken c = lost_taken (plan_of c.args.p.now) c.args.t.now c.args.core.now c.turn.new.c c.args.bench.now c.turn.new.b _ c.in-Contended.ensures.turned

pub returns-in-NothingNow-clause-looked : goal.returns-in-NothingNow-clause-looked
returns-in-NothingNow-clause-looked c = λ none. nothing_said (plan_of c.args.p.now) c.args.t.now c.args.core.now c.turn.new.c c.args.bench.now c.turn.new.b _ _ c.in-NothingNow.ensures.turned c.in-NothingNow.ensures.turned.work

pub returns-in-Contended-clause-looked : goal.returns-in-Contended-clause-looked
returns-in-Contended-clause-looked c = λ none. another_held (plan_of c.args.p.now) c.args.t.now c.args.core.now c.turn.new.c c.args.bench.now c.turn.new.b _ _ c.in-Contended.ensures.turned
