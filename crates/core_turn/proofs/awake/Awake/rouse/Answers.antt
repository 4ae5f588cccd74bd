use Rattle.std.proofs.Common.{sym, subst}
use Rattle.core_turn.specs.Awake.{AwakeState, StartsHeld, WaitersHeld}
use Rattle.core_turn.proofs.Awakes.{starts_waking}
use Rattle.core_turn.proofs.Waiters.{waiters_waking}
use Rattle.core_turn.proofs.awake.Awake.rouse.Goals as goal

pub returns-clause-starts : goal.returns-clause-starts
returns-clause-starts c = λ p t objects slots held.
    let a : AwakeState = record { slots = c.self.inside.slots; events = c.self.inside.events.items; waiting = c.self.inside.waiting; areas = c.self.inside.areas.items; first = c.self.inside.first } in
    subst (StartsHeld p t objects slots) (λ i. record { slots = sym c.insert.ensures i; events = a.events; waiting = sym c.remove.ensures i; areas = a.areas; first = a.first })
    (starts_waking p t objects slots a c.args.slot (subst (StartsHeld p t objects slots) (sym c.self.view_is) held))

pub returns-clause-waiters : goal.returns-clause-waiters
returns-clause-waiters c = λ p t objects touched slots first held.
    let a : AwakeState = record { slots = c.self.inside.slots; events = c.self.inside.events.items; waiting = c.self.inside.waiting; areas = c.self.inside.areas.items; first = c.self.inside.first } in
    subst (WaitersHeld p t objects touched slots first) (λ i. record { slots = sym c.insert.ensures i; events = a.events; waiting = sym c.remove.ensures i; areas = a.areas; first = a.first })
    (waiters_waking p t objects touched slots first a c.args.slot (subst (WaitersHeld p t objects touched slots first) (sym c.self.view_is) held))
