use Rattle.std.proofs.Common.{◌<◌, true, length, set, get_or, [], refl, sym, subst}
use Rattle.std.proofs.lemmas.Option.{slice_get_read}
use Rattle.core_turn.specs.Awake.{AwakeState, StartsHeld, WaitersHeld}
use Rattle.core_turn.proofs.Awakes.{row_there, with_rows, starts_on, starts_waking}
use Rattle.core_turn.proofs.Waiters.{waiters_waking}
use Rattle.core_turn.proofs.awake.Awake.wake.Goals as goal

pub returns-clause-starts : goal.returns-clause-starts
returns-clause-starts c = λ p t objects slots held.
    let rows = c.self.inside.events.items in
    let a : AwakeState = record { slots = c.self.inside.slots; events = rows; waiting = c.self.inside.waiting; areas = c.self.inside.areas.items; first = c.self.inside.first } in
    let within : c.args.slot < length rows =
    row_there rows c.args.slot c.args.place (subst (λ (b : AwakeState). c.args.place < length (get_or b.events c.args.slot [])) (sym c.self.view_is) c.requires.place) in
    subst (StartsHeld p t objects slots) (λ i. record { slots = sym c.insert.ensures i; events = set rows c.args.slot (sym c.insert-2.ensures i); waiting = sym c.remove.ensures i; areas = a.areas; first = a.first })
    (starts_waking p t objects slots (with_rows a (set rows c.args.slot (set c.index_mut.result.now c.args.place true))) c.args.slot
    (starts_on p t objects slots a c.args.slot c.args.place c.index_mut.result.now
    (slice_get_read rows (length rows) c.args.slot c.index_mut.result.now refl within c.index_mut.ensures.value) (subst (StartsHeld p t objects slots) (sym c.self.view_is) held)))

pub returns-clause-waiters : goal.returns-clause-waiters
returns-clause-waiters c = λ p t objects touched slots first held.
    let a : AwakeState = record { slots = c.self.inside.slots; events = c.self.inside.events.items; waiting = c.self.inside.waiting; areas = c.self.inside.areas.items; first = c.self.inside.first } in
    subst (WaitersHeld p t objects touched slots first) (λ i. record { slots = sym c.insert.ensures i; events = a.events; waiting = sym c.remove.ensures i; areas = a.areas; first = a.first })
    (waiters_waking p t objects touched slots first a c.args.slot (subst (WaitersHeld p t objects touched slots first) (sym c.self.view_is) held))
