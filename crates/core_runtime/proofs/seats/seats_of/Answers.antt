use Rattle.std.proofs.Common.{◌≡◌, ◌<◌, ◌∙◌, ap, subst, sym, arith, length, map, true}
use Rattle.std.specs.Prelude.{All, nat_lt}
use Rattle.bus_semantics.specs.Common.{list_all, option_map, length-map, slice_get-map, plan_of}
use Rattle.core_turn.specs.Cores.{CoreState}
use Rattle.task_slots.specs.Slots.{events_of_slot}
use Rattle.core_runtime.specs.Watching.{IsOfCores, tables_of}
use Rattle.latches.proofs.Places.{found_at}
use Rattle.core_runtime.proofs.Seated.{adds_none, all_below, cores_on, cores_all}
use Rattle.core_runtime.proofs.Known.{known_events}
use Rattle.core_runtime.proofs.Watched.{mapped_found}
use Rattle.core_runtime.proofs.seats.seats_of.Goals as goal

pub seat_core-requires : goal.seat_core-requires
seat_core-requires c = λ i events found.
    let core = c.index-cores-number.result in
    let ready = c.requires.2 c.loop-number.number core (found_at c.args.cores.now c.loop-number.number core c.loop-number-test.true c.index-cores-number.is) in
    let at = mapped_found events_of_slot core.slots i events found in
    let count : length c.loop-number.seats.items ≡ length c.args.p.now.events = c.loop-number.invariant.count ∙ c.in_ok-seats.ensures.count ∙ ap length c.items.ensures in
    subst (λ n. All (λ e. e < n) events) (sym count) (all_below events (length c.args.p.now.events) (subst (λ es. list_all (λ e. nat_lt e (length c.args.p.now.events)) es ≡ true) at.gives (known_events (plan_of c.args.p.now) c.requires.1 at.item (ready.each i at.item at.is))))

pub loop-number-init : goal.loop-number-init
loop-number-init c = adds_none (λ s. s.core) (IsOfCores (tables_of c.args.cores.now)) c.in_ok-seats.seats.items

pub loop-number-preserved : goal.loop-number-preserved
loop-number-preserved c =
    let k = c.loop-number.number in
    let core = c.index-cores-number.result in
    let found = found_at c.args.cores.now k core c.loop-number-test.true c.index-cores-number.is in
    cores_on c.in_ok-seats.seats.items c.loop-number.seats.items c.seat_core.new.seats.items (tables_of c.args.cores.now) k (map events_of_slot core.slots)
    (slice_get-map (λ (x : CoreState). map events_of_slot x.slots) c.args.cores.now k ∙ ap (option_map (λ (x : CoreState). map events_of_slot x.slots)) found)
    c.loop-number.invariant c.in_ok-seat_core.ensures

pub returns : goal.returns
returns c =
    let count = length-map c.args.cores.now (λ (x : CoreState). map events_of_slot x.slots) in
    cores_all c.in_ok-seats.seats.items c.loop-number.seats.items (tables_of c.args.cores.now) c.loop-number.number (omega (arith, count)) c.in_ok-seats.ensures.none c.loop-number.invariant
