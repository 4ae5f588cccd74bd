use Rattle.bus_semantics.specs.Plan.{plan_of}
use Rattle.core_turn.proofs.Made.{few_machines, has_slots, is_ready, stands_for_none}
use Rattle.core_turn.proofs.cores.Core.new.Goals as goal

pub returns-clause-slots : goal.returns-clause-slots
returns-clause-slots c = λ few.
    has_slots (plan_of c.args.p.now) c.args.m.now c.args.t.now (record { number = c.args.number; slots = c.in_ok-slots.slots.items; first = 0; trace = c.new.result.items; room = 0 }) (c.in_ok-slots.ensures.listed few)

pub returns-clause-ready : goal.returns-clause-ready
returns-clause-ready c = λ sound.
    is_ready (plan_of c.args.p.now) c.args.m.now c.args.t.now _ (c.in_ok-slots.ensures.listed (few_machines (plan_of c.args.p.now) c.args.m.now sound)) sound

pub returns-clause-stands : goal.returns-clause-stands
returns-clause-stands c = λ p.
    stands_for_none p c.args.t.now c.in_ok-slots.ensures.new.0 (record { number = c.args.number; slots = c.in_ok-slots.slots.items; first = 0; trace = c.new.result.items; room = 0 }) c.in_ok-slots.ensures.new.1
