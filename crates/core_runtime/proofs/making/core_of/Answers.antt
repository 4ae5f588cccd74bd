use Rattle.std.proofs.Common.{[], ◌∙◌, arith}
use Rattle.bus_semantics.specs.Plan.{plan_of}
use Rattle.core_lanes.specs.Taking.{IsSameCore}
use Rattle.core_lanes.proofs.MergedTurns.{same_ready, same_stands}
use Rattle.core_runtime.proofs.making.core_of.Goals as goal

pub returns : goal.returns
returns c =
    let same : IsSameCore c.in_ok-core.core c.make_room.new.self = record { number = c.in_ok-make_room.ensures.number; slots = c.in_ok-make_room.ensures.slots } in
    record {
      is_number = c.in_ok-make_room.ensures.number ∙ c.in_ok-core.ensures.number;
      has_room = record { trace = c.in_ok-make_room.ensures.trace ∙ c.in_ok-core.ensures.trace; room = omega (arith, c.in_ok-make_room.ensures.room) };
      is_ready = λ sound. same_ready (plan_of c.args.p.now) c.args.t.now c.in_ok-core.core c.make_room.new.self same c.args.m.now (c.in_ok-core.ensures.ready sound);
      stands = same_stands (plan_of c.args.p.now) c.args.t.now c.in_ok-core.core c.make_room.new.self same [] (c.in_ok-core.ensures.stands (plan_of c.args.p.now));
    }
