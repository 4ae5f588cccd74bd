use Rattle.std.proofs.Common.{◌≡◌, ◌<◌, ◌≤◌, length, sym, ◌∙◌, ap, arith, Some}
use Rattle.bus_semantics.specs.Common.{slice_get, slice_get-get_or}
use Rattle.core_turn.specs.Cores.{CoreState}
use Rattle.core_turn.specs.Awake.{AwakeState}
use Rattle.core_turn.proofs.AllAwake.{begun, width_at, roused, all_awake_held}
use Rattle.core_turn.proofs.awake.Awake.wake_all.Goals as goal

pub loop-place-init : goal.loop-place-init
loop-place-init c = begun c.args.c.now.slots c.requires.0 c.requires.1 c.args.self.now c.requires.2 c.requires.3

pub wake_slot-requires-clause-events : goal.wake_slot-requires-clause-events
wake_slot-requires-clause-events c =
    let within : c.loop-place.place < length c.c.inside.slots.items = omega (arith, c.loop-place-test.true) in
    let at : slice_get c.c.inside.slots.items c.loop-place.place ≡ Some c.index.result.now = slice_get-get_or c.c.inside.slots.items c.loop-place.place c.index.result.now within ∙ ap (λ s. Some s) (sym c.index.ensures) in
    let found : slice_get c.args.c.now.slots c.loop-place.place ≡ Some c.index.result.now = ap (λ (k : CoreState). slice_get k.slots c.loop-place.place) (sym c.c.view_is) ∙ at in
    width_at c.args.c.now.slots c.loop-place.place c.loop-place.self c.index.result.now c.loop-place.invariant found ∙ ap length (sym c.events.ensures)

pub loop-place-preserved : goal.loop-place-preserved
loop-place-preserved c =
    let within : c.loop-place.place < length c.c.inside.slots.items = omega (arith, c.loop-place-test.true) in
    let at : slice_get c.c.inside.slots.items c.loop-place.place ≡ Some c.index.result.now = slice_get-get_or c.c.inside.slots.items c.loop-place.place c.index.result.now within ∙ ap (λ s. Some s) (sym c.index.ensures) in
    let found : slice_get c.args.c.now.slots c.loop-place.place ≡ Some c.index.result.now = ap (λ (k : CoreState). slice_get k.slots c.loop-place.place) (sym c.c.view_is) ∙ at in
    roused c.args.c.now.slots c.loop-place.place c.loop-place.self c.wake_slot.new.self c.index.result.now c.loop-place.invariant found c.wake_slot.ensures

pub returns-clause-held : goal.returns-clause-held
returns-clause-held c = λ p t objects touched first.
    let count : c.len-place-end.result ≡ length c.c.inside.slots.items = omega arith in
    let same : length c.c.inside.slots.items ≡ length c.args.c.now.slots = ap (λ (k : CoreState). length k.slots) c.c.view_is in
    let all : length c.args.c.now.slots ≤ c.loop-place.place = omega (arith, c.loop-place-test.false, count, same) in
    all_awake_held p t objects touched c.args.c.now.slots first c.loop-place.place c.c.inside.first c.loop-place.self _ all c.loop-place.invariant
    (ap (λ (a : AwakeState). record { slots = a.slots; events = a.events; waiting = a.waiting; areas = a.areas; first = c.c.inside.first }) c.self.view_is)
