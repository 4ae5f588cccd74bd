use Rattle.std.proofs.Common.{◌<◌, false, arith, length, set, get_or, [], refl, sym, subst}
use Rattle.std.proofs.lemmas.Option.{slice_get_read}
use Rattle.core_turn.specs.Awake.{AwakeState, Fits, StartsHeld, WaitersHeld}
use Rattle.core_turn.proofs.Awakes.{row_there, starts_off, fits_off}
use Rattle.core_turn.proofs.awake.Awake.rest.Goals as goal

pub index_mut-requires : goal.index_mut-requires
index_mut-requires c =
    let within : c.args.slot < length c.self.inside.events.items =
    row_there c.self.inside.events.items c.args.slot c.args.place (subst (λ (b : AwakeState). c.args.place < length (get_or b.events c.args.slot [])) (sym c.self.view_is) c.requires.place) in
    omega (arith, within)

pub returns-clause-fits : goal.returns-clause-fits
returns-clause-fits c = λ slots first fits.
    let rows = c.self.inside.events.items in
    let a : AwakeState = record { slots = c.self.inside.slots; events = rows; waiting = c.self.inside.waiting; areas = c.self.inside.areas.items; first = c.self.inside.first } in
    let within : c.args.slot < length rows =
    row_there rows c.args.slot c.args.place (subst (λ (b : AwakeState). c.args.place < length (get_or b.events c.args.slot [])) (sym c.self.view_is) c.requires.place) in
    subst (Fits slots first) (λ i. record { slots = a.slots; events = set rows c.args.slot (sym c.remove.ensures i); waiting = a.waiting; areas = a.areas; first = a.first })
    (fits_off slots first a c.args.slot c.args.place c.index_mut.result.now
    (slice_get_read rows (length rows) c.args.slot c.index_mut.result.now refl within c.index_mut.ensures.value) (subst (Fits slots first) (sym c.self.view_is) fits))

pub returns-clause-starts : goal.returns-clause-starts
returns-clause-starts c = λ p t objects slots over held.
    let rows = c.self.inside.events.items in
    let a : AwakeState = record { slots = c.self.inside.slots; events = rows; waiting = c.self.inside.waiting; areas = c.self.inside.areas.items; first = c.self.inside.first } in
    let within : c.args.slot < length rows =
    row_there rows c.args.slot c.args.place (subst (λ (b : AwakeState). c.args.place < length (get_or b.events c.args.slot [])) (sym c.self.view_is) c.requires.place) in
    subst (StartsHeld p t objects slots) (λ i. record { slots = a.slots; events = set rows c.args.slot (sym c.remove.ensures i); waiting = a.waiting; areas = a.areas; first = a.first })
    (starts_off p t objects slots a c.args.slot c.args.place c.index_mut.result.now
    (slice_get_read rows (length rows) c.args.slot c.index_mut.result.now refl within c.index_mut.ensures.value) over (subst (StartsHeld p t objects slots) (sym c.self.view_is) held))

pub returns-clause-waiters : goal.returns-clause-waiters
returns-clause-waiters c = λ p t objects touched slots first held.
    let a : AwakeState = record { slots = c.self.inside.slots; events = c.self.inside.events.items; waiting = c.self.inside.waiting; areas = c.self.inside.areas.items; first = c.self.inside.first } in
    let same : WaitersHeld p t objects touched slots first a = subst (WaitersHeld p t objects touched slots first) (sym c.self.view_is) held in
    same
