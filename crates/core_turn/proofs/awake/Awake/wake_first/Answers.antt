use Rattle.std.proofs.Common.{◌≡◌, set, sym, ◌∙◌, ap, subst, Some, None}
use Rattle.core_turn.specs.Awake.{AwakeState, WaitersHeld, woken_at}
use Rattle.core_turn.proofs.Left.{waiters_left, starts_first}
use Rattle.core_turn.proofs.awake.Awake.wake_first.Goals as goal

pub returns-in-Some-clause-starts : goal.returns-in-Some-clause-starts
returns-in-Some-clause-starts c = λ p t objects slots held.
    let a : AwakeState = record { slots = c.self.inside.slots; events = c.self.inside.events.items; waiting = c.self.inside.waiting; areas = c.self.inside.areas.items; first = c.self.inside.first } in
    let new : AwakeState = record { slots = c.insert.new.self; events = a.events; waiting = c.remove.new.self; areas = a.areas; first = a.first } in
    let same : a ≡ c.args.self.now = c.self.view_is ∙ c.in-Some.ensures.same in
    let step : new ≡ woken_at a (Some c.in-Some.place) = λ i. record { slots = c.insert.ensures i; events = a.events; waiting = c.remove.ensures i; areas = a.areas; first = a.first } in
    starts_first p t objects slots c.args.object c.args.self.now new (Some c.in-Some.place) (record { first = c.in-Some.ensures.first; changed = step ∙ ap (λ b. woken_at b (Some c.in-Some.place)) same }) held

pub returns-in-Some-clause-waiters : goal.returns-in-Some-clause-waiters
returns-in-Some-clause-waiters c = λ p t objects slots left held.
    let a : AwakeState = record { slots = c.self.inside.slots; events = c.self.inside.events.items; waiting = c.self.inside.waiting; areas = c.self.inside.areas.items; first = c.self.inside.first } in
    let new : AwakeState = record { slots = c.insert.new.self; events = a.events; waiting = c.remove.new.self; areas = a.areas; first = a.first } in
    let same : a ≡ c.args.self.now = c.self.view_is ∙ c.in-Some.ensures.same in
    let step : new ≡ woken_at a (Some c.in-Some.place) = λ i. record { slots = c.insert.ensures i; events = a.events; waiting = c.remove.ensures i; areas = a.areas; first = a.first } in
    subst (λ n. WaitersHeld p t (set objects c.args.object left) None slots n new) (sym (ap (λ (b : AwakeState). b.first) same))
    (waiters_left p t objects c.args.object left slots c.args.self.now new held (Some c.in-Some.place) (record { first = c.in-Some.ensures.first; changed = step ∙ ap (λ b. woken_at b (Some c.in-Some.place)) same }))

pub returns-in-None-clause-waiters : goal.returns-in-None-clause-waiters
returns-in-None-clause-waiters c = λ p t objects slots left held.
    let new = c.first_waiter.new.self in
    subst (λ n. WaitersHeld p t (set objects c.args.object left) None slots n new) (sym (ap (λ (b : AwakeState). b.first) c.in-None.ensures.same))
    (waiters_left p t objects c.args.object left slots c.args.self.now new held None (record { first = c.in-None.ensures.first; changed = c.in-None.ensures.same }))
