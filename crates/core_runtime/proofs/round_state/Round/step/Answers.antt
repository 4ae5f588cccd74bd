use Rattle.std.proofs.Common.{◌≡◌, ◌<◌, refl, sym, ◌∙◌, ap, subst, arith, length, map, set, true, false, None}
use Rattle.bus_semantics.specs.Common.{vec_capacity, and_parts, same_Some, plan_of, fits, starts_its_own, touched_by, IsObject}
use Rattle.std.specs.Vec.{with_item}
use Rattle.std.specs.Prelude.{IfSome}
use Rattle.bus_semantics.specs.declared.entries.Stamped.{Stamped}
use Rattle.port_objects.specs.Benches.{written_last}
use Rattle.core_turn.specs.Cores.{CoreState}
use Rattle.task_slots.specs.Slots.{events_of_slot, table_of}
use Rattle.core_lanes.specs.Rooms.{HasRoom}
use Rattle.core_runtime.specs.Common.{RoundState, IsRound, IsLater, Rested, Stepped, IsAfter, IsWatch}
use Rattle.latches.proofs.Places.{found_at}
use Rattle.core_runtime.proofs.Areas.{still_waiting}
use Rattle.core_runtime.proofs.Turned.{after_step, awake_on, waiting_on, events_kept, seated_on, owners_same, behind_on}
use Rattle.core_runtime.proofs.Stepping.{last_is, room_kept, makes, rests}
use Rattle.core_runtime.proofs.Later.{round_of, round_on, later_on, turn_on}
use Rattle.core_runtime.proofs.round_state.Round.step.Goals as goal

pub turn_of_awake-requires-clause-ready : goal.turn_of_awake-requires-clause-ready
turn_of_awake-requires-clause-ready c =
    let cores = c.self.inside.cores.items in
    let within : c.args.number < length cores = omega (arith, c.requires.number, ap (λ (r : RoundState). length r.cores) c.self.view_is) in
    (c.self.invariant.0.mapping, c.self.invariant.0.ready c.args.number c.index_mut-core.result.now (found_at cores c.args.number c.index_mut-core.result.now within c.index_mut-core.ensures.value))

pub turn_of_awake-requires-clause-fits : goal.turn_of_awake-requires-clause-fits
turn_of_awake-requires-clause-fits c =
    let cores = c.self.inside.cores.items in
    let awake = c.self.inside.watch.awake.items in
    let within : c.args.number < length cores = omega (arith, c.requires.number, ap (λ (r : RoundState). length r.cores) c.self.view_is) in
    let inside : c.args.number < length awake = omega (arith, within, c.self.invariant.1.awake.count) in
    (c.self.invariant.1.awake.each c.args.number c.index_mut-core.result.now c.index_mut-awake.result.now (found_at cores c.args.number c.index_mut-core.result.now within c.index_mut-core.ensures.value) (found_at awake c.args.number c.index_mut-awake.result.now inside c.index_mut-awake.ensures.value)).fits

pub turn_of_awake-requires-clause-held : goal.turn_of_awake-requires-clause-held
turn_of_awake-requires-clause-held c =
    let cores = c.self.inside.cores.items in
    let awake = c.self.inside.watch.awake.items in
    let within : c.args.number < length cores = omega (arith, c.requires.number, ap (λ (r : RoundState). length r.cores) c.self.view_is) in
    let inside : c.args.number < length awake = omega (arith, within, c.self.invariant.1.awake.count) in
    let core_is = found_at cores c.args.number c.index_mut-core.result.now within c.index_mut-core.ensures.value in
    let awake_is = found_at awake c.args.number c.index_mut-awake.result.now inside c.index_mut-awake.ensures.value in
    record {
      starts = (c.self.invariant.1.awake.each c.args.number c.index_mut-core.result.now c.index_mut-awake.result.now core_is awake_is).starts;
      waiters = c.self.invariant.1.waiting c.args.number c.index_mut-core.result.now c.index_mut-awake.result.now core_is awake_is;
    }

pub turn_of_awake-requires-clause-space : goal.turn_of_awake-requires-clause-space
turn_of_awake-requires-clause-space c =
    let room : c.self.inside.bench.room ≡ c.args.self.now.room = ap (λ (r : RoundState). r.room) c.self.view_is in
    omega (arith, c.requires.room, c.self.invariant.0.room)

pub wake_after-requires-clause-within : goal.wake_after-requires-clause-within
wake_after-requires-clause-within c =
    let p = plan_of c.self.inside.plan.now in
    let cores = c.self.inside.cores.items in
    let within : c.args.number < length cores = omega (arith, c.requires.number, ap (λ (r : RoundState). length r.cores) c.self.view_is) in
    let found = found_at cores c.args.number c.index_mut-core.result.now within c.index_mut-core.ensures.value in
    let turned = c.in-Stepped.ensures.turned in
    let made : c.last_written-made.result.now ≡ turned.0 = last_is c.last_entries_are_last.ensures _ c.self.inside.entries.items turned.0 _ turned.1.written (ap written_last (sym c.as_slice.ensures.value) ∙ c.last_written-made.ensures) in
    subst (λ (s : Stamped). IfSome (touched_by p (record { entry = s.entry; event = s.event })) (IsObject p)) (sym made)
    (c.sound_plans_have_objects.ensures.entered p c.self.invariant.0.mapping (record { entry = turned.0.entry; event = turned.0.event }) (c.self.invariant.0.ready c.args.number c.index_mut-core.result.now found).sound
    (and_parts (fits p turned.0.entry) (starts_its_own p turned.0.entry.actor turned.0.entry.deed) turned.1.apart.step.proper).0)

pub wake_after-requires-clause-watched : goal.wake_after-requires-clause-watched
wake_after-requires-clause-watched c =
    let steps = c.in-Stepped.ensures.turned.1.apart in
    let p = plan_of c.self.inside.plan.now in
    let old = c.index_mut-core.result.now in
    let cores = c.self.inside.cores.items in
    let w = c.self.inside.watch in
    let before = c.self.inside.bench.objects in
    let within : c.args.number < length cores = omega (arith, c.requires.number, ap (λ (r : RoundState). length r.cores) c.self.view_is) in
    let found = found_at cores c.args.number old within c.index_mut-core.ensures.value in
    let t = c.self.inside.bodies.now in
    let new = c.turn_of_awake.new.c in
    let b = c.turn_of_awake.new.a in
    let events = ap (map events_of_slot) steps.slots ∙ events_kept old.slots steps.at steps.slot steps.stepped steps.there steps.step.table in
    let held = c.in-Stepped.ensures.held c.in-Stepped.ensures.turned.0 c.in-Stepped.ensures.turned.1.written in (
      t,
      set cores c.args.number new,
      before,
      awake_on p t before cores w.awake.items w.seats.items c.args.number old new new b found refl refl events c.in-Stepped.ensures.fits held.starts c.self.invariant.1.awake,
      seated_on p t before cores w.awake.items w.seats.items c.args.number old new new b found refl refl events c.self.invariant.1.seated,
    )

pub invariant_of-self : goal.invariant_of-self
invariant_of-self c =
    let p = plan_of c.self.inside.plan.now in
    let t = c.self.inside.bodies.now in
    let old = c.index_mut-core.result.now in
    let new = c.turn_of_awake.new.c in
    let cores = c.self.inside.cores.items in
    let watch = c.self.inside.watch in
    let before = c.self.inside.bench in
    let now = c.turn_of_awake.new.b in
    let entries = c.self.inside.entries in
    let all = c.turn_of_awake.new.made in
    let turned = c.in-Stepped.ensures.turned in
    let steps = turned.1.apart in
    let within : c.args.number < length cores = omega (arith, c.requires.number, ap (λ (r : RoundState). length r.cores) c.self.view_is) in
    let found = found_at cores c.args.number old within c.index_mut-core.ensures.value in
    let room : HasRoom new = room_kept old new turned.1.trace turned.1.room (c.self.invariant.0.core_room c.args.number old found) in
    let made : c.last_written-made.result.now ≡ turned.0 = last_is c.last_entries_are_last.ensures _ entries.items turned.0 _ turned.1.written (ap written_last (sym c.as_slice.ensures.value) ∙ c.last_written-made.ensures) in
    let step = makes p t old before now entries.items new new turned.0 all.items steps (record { number = refl; slots = refl }) refl turned.1.written c.in-Stepped.ensures.ready
    (λ m xs i h lawful at ready. c.turns_keep_the_law.ensures.stepped _ m _ xs i _ _ _ _ _ _ turned.0 h lawful at ready refl refl steps) in
    let events = ap (map events_of_slot) steps.slots ∙ events_kept old.slots steps.at steps.slot steps.stepped steps.there steps.step.table in
    let held = c.in-Stepped.ensures.held turned.0 turned.1.written in
    let flags = c.turn_of_awake.new.a in
    let touched = touched_by p (record { entry = turned.0.entry; event = turned.0.event }) in
    let watched : IsWatch p t before.objects touched (set cores c.args.number new) (record { awake = with_item watch.awake c.args.number flags; seats = watch.seats; starters = watch.starters }) = record {
      awake = awake_on p t before.objects cores watch.awake.items watch.seats.items c.args.number old new new flags found refl refl events c.in-Stepped.ensures.fits held.starts c.self.invariant.1.awake;
      waiting = waiting_on p t before.objects cores watch.awake.items watch.seats.items c.args.number old new new flags found refl refl events touched held.waiters
          (still_waiting c.waiters_sleep_on.ensures.still p t before.objects touched cores watch.awake.items c.self.invariant.1.waiting);
      seated = seated_on p t before.objects cores watch.awake.items watch.seats.items c.args.number old new new flags found refl refl events c.self.invariant.1.seated;
      behind = behind_on p cores c.args.number old new new found refl (ap (map table_of) steps.slots ∙ owners_same old.slots steps.at steps.slot steps.stepped steps.there steps.step.table) c.self.invariant.1.behind;
      starters = c.self.invariant.1.starters;
    } in
    let is_after = after_step p t old new before now turned.0 steps in
    let after_made = subst (λ (s : Stamped). IsAfter p before.objects c.objects.result.now (record { entry = s.entry; event = s.event })) (sym made)
    (subst (λ os. IsAfter p before.objects os (record { entry = turned.0.entry; event = turned.0.event })) (sym c.objects.ensures.objects) is_after) in (
      subst (IsRound p t (set cores c.args.number new) now all.items) (sym c.in-Stepped.ensures.capacity)
          (round_on c.self.inside.plan.now t cores c.args.number old new before now entries.items all.items (vec_capacity entries) found room c.self.invariant.0 true step (c.in-Stepped.ensures.plan ∙ c.self.invariant.0.plan)),
      subst (λ os. IsWatch p t os None (set cores c.args.number new) c.wake_after.new.w) c.objects.ensures.objects
          (c.wake_after.ensures t (set cores c.args.number new) before.objects after_made
          (subst (λ (s : Stamped). IsWatch p t before.objects (touched_by p (record { entry = s.entry; event = s.event })) (set cores c.args.number new) (record { awake = with_item watch.awake c.args.number flags; seats = watch.seats; starters = watch.starters })) (sym made) watched)),
    )

pub returns-in-Stepped-clause-later : goal.returns-in-Stepped-clause-later
returns-in-Stepped-clause-later c =
    let p = plan_of c.self.inside.plan.now in
    let t = c.self.inside.bodies.now in
    let old = c.index_mut-core.result.now in
    let new = c.turn_of_awake.new.c in
    let cores = c.self.inside.cores.items in
    let before = c.self.inside.bench in
    let now = c.turn_of_awake.new.b in
    let entries = c.self.inside.entries in
    let all = c.turn_of_awake.new.made in
    let turned = c.in-Stepped.ensures.turned in
    let steps = turned.1.apart in
    let within : c.args.number < length cores = omega (arith, c.requires.number, ap (λ (r : RoundState). length r.cores) c.self.view_is) in
    let found = found_at cores c.args.number old within c.index_mut-core.ensures.value in
    let room : HasRoom new = room_kept old new turned.1.trace turned.1.room (c.self.invariant.0.core_room c.args.number old found) in
    let step = makes p t old before now entries.items new new turned.0 all.items steps (record { number = refl; slots = refl }) refl turned.1.written c.in-Stepped.ensures.ready
    (λ m xs i h lawful at ready. c.turns_keep_the_law.ensures.stepped _ m _ xs i _ _ _ _ _ _ turned.0 h lawful at ready refl refl steps) in
    subst (λ (r : RoundState). IsLater r (round_of c.self.inside.plan.now t (set cores c.args.number new) now all.items (vec_capacity all))) c.self.view_is
    (subst (λ n. IsLater (round_of c.self.inside.plan.now t cores before entries.items (vec_capacity entries)) (round_of c.self.inside.plan.now t (set cores c.args.number new) now all.items n)) (sym c.in-Stepped.ensures.capacity)
    (later_on c.self.inside.plan.now t cores c.args.number old new before now entries.items all.items (vec_capacity entries) found room c.self.invariant.0 true step))

pub returns-in-Stepped-clause-turn : goal.returns-in-Stepped-clause-turn
returns-in-Stepped-clause-turn c =
    let p = plan_of c.self.inside.plan.now in
    let t = c.self.inside.bodies.now in
    let old = c.index_mut-core.result.now in
    let new = c.turn_of_awake.new.c in
    let cores = c.self.inside.cores.items in
    let before = c.self.inside.bench in
    let now = c.turn_of_awake.new.b in
    let entries = c.self.inside.entries in
    let all = c.turn_of_awake.new.made in
    let turned = c.in-Stepped.ensures.turned in
    let steps = turned.1.apart in
    let within : c.args.number < length cores = omega (arith, c.requires.number, ap (λ (r : RoundState). length r.cores) c.self.view_is) in
    let found = found_at cores c.args.number old within c.index_mut-core.ensures.value in
    let room : HasRoom new = room_kept old new turned.1.trace turned.1.room (c.self.invariant.0.core_room c.args.number old found) in
    let step = makes p t old before now entries.items new new turned.0 all.items steps (record { number = refl; slots = refl }) refl turned.1.written c.in-Stepped.ensures.ready
    (λ m xs i h lawful at ready. c.turns_keep_the_law.ensures.stepped _ m _ xs i _ _ _ _ _ _ turned.0 h lawful at ready refl refl steps) in
    subst (λ (r : RoundState). Stepped r (round_of c.self.inside.plan.now t (set cores c.args.number new) now all.items (vec_capacity all)) c.args.number) c.self.view_is
    (subst (λ n. Stepped (round_of c.self.inside.plan.now t cores before entries.items (vec_capacity entries)) (round_of c.self.inside.plan.now t (set cores c.args.number new) now all.items n) c.args.number) (sym c.in-Stepped.ensures.capacity)
    (turn_on c.self.inside.plan.now t cores c.args.number old new before now entries.items all.items (vec_capacity entries) found room c.self.invariant.0 true step))

pub invariant_of-self-in-NothingNow : goal.invariant_of-self-in-NothingNow
invariant_of-self-in-NothingNow c =
    let p = plan_of c.self.inside.plan.now in
    let t = c.self.inside.bodies.now in
    let old = c.index_mut-core.result.now in
    let new = c.turn_of_awake.new.c in
    let cores = c.self.inside.cores.items in
    let w = c.self.inside.watch in
    let before = c.self.inside.bench in
    let now = c.turn_of_awake.new.b in
    let entries = c.self.inside.entries in
    let all = c.turn_of_awake.new.made in
    let turned = c.in-NothingNow.ensures.turned.1 in
    let within : c.args.number < length cores = omega (arith, c.requires.number, ap (λ (r : RoundState). length r.cores) c.self.view_is) in
    let found = found_at cores c.args.number old within c.index_mut-core.ensures.value in
    let room = subst HasRoom (sym turned.same) (c.self.invariant.0.core_room c.args.number old found) in
    let events = ap (λ (k : CoreState). map events_of_slot k.slots) turned.same in (
      subst (IsRound p t (set cores c.args.number new) now all.items) (sym c.in-NothingNow.ensures.capacity)
          (round_on c.self.inside.plan.now t cores c.args.number old new before now entries.items all.items (vec_capacity entries) found room c.self.invariant.0 false
          (rests p t old before now entries.items new all.items c.in-NothingNow.ensures.turned.0 turned) (c.in-NothingNow.ensures.plan ∙ c.self.invariant.0.plan)),
      subst (λ os. IsWatch p t os None (set cores c.args.number new) (record { awake = with_item w.awake c.args.number c.turn_of_awake.new.a; seats = w.seats; starters = w.starters })) (sym (same_Some _ _ turned.objects.1))
          (record {
            awake = awake_on p t before.objects cores w.awake.items w.seats.items c.args.number old new new c.turn_of_awake.new.a found refl refl events c.in-NothingNow.ensures.fits c.in-NothingNow.ensures.held.starts c.self.invariant.1.awake;
            waiting = waiting_on p t before.objects cores w.awake.items w.seats.items c.args.number old new new c.turn_of_awake.new.a found refl refl events None c.in-NothingNow.ensures.held.waiters c.self.invariant.1.waiting;
            seated = seated_on p t before.objects cores w.awake.items w.seats.items c.args.number old new new c.turn_of_awake.new.a found refl refl events c.self.invariant.1.seated;
            behind = behind_on p cores c.args.number old new new found refl (ap (λ (k : CoreState). map table_of k.slots) turned.same) c.self.invariant.1.behind;
            starters = c.self.invariant.1.starters;
          }),
    )

pub returns-in-NothingNow-clause-later : goal.returns-in-NothingNow-clause-later
returns-in-NothingNow-clause-later c =
    let p = plan_of c.self.inside.plan.now in
    let t = c.self.inside.bodies.now in
    let old = c.index_mut-core.result.now in
    let new = c.turn_of_awake.new.c in
    let cores = c.self.inside.cores.items in
    let before = c.self.inside.bench in
    let now = c.turn_of_awake.new.b in
    let entries = c.self.inside.entries in
    let all = c.turn_of_awake.new.made in
    let turned = c.in-NothingNow.ensures.turned.1 in
    let within : c.args.number < length cores = omega (arith, c.requires.number, ap (λ (r : RoundState). length r.cores) c.self.view_is) in
    let found = found_at cores c.args.number old within c.index_mut-core.ensures.value in
    let room = subst HasRoom (sym turned.same) (c.self.invariant.0.core_room c.args.number old found) in
    subst (λ (r : RoundState). IsLater r (round_of c.self.inside.plan.now t (set cores c.args.number new) now all.items (vec_capacity all))) c.self.view_is
    (subst (λ n. IsLater (round_of c.self.inside.plan.now t cores before entries.items (vec_capacity entries)) (round_of c.self.inside.plan.now t (set cores c.args.number new) now all.items n)) (sym c.in-NothingNow.ensures.capacity)
    (later_on c.self.inside.plan.now t cores c.args.number old new before now entries.items all.items (vec_capacity entries) found room c.self.invariant.0 false
    (rests p t old before now entries.items new all.items c.in-NothingNow.ensures.turned.0 turned)))

pub returns-in-NothingNow-clause-turn : goal.returns-in-NothingNow-clause-turn
returns-in-NothingNow-clause-turn c =
    let p = plan_of c.self.inside.plan.now in
    let t = c.self.inside.bodies.now in
    let old = c.index_mut-core.result.now in
    let new = c.turn_of_awake.new.c in
    let cores = c.self.inside.cores.items in
    let before = c.self.inside.bench in
    let now = c.turn_of_awake.new.b in
    let entries = c.self.inside.entries in
    let all = c.turn_of_awake.new.made in
    let turned = c.in-NothingNow.ensures.turned.1 in
    let within : c.args.number < length cores = omega (arith, c.requires.number, ap (λ (r : RoundState). length r.cores) c.self.view_is) in
    let found = found_at cores c.args.number old within c.index_mut-core.ensures.value in
    let room = subst HasRoom (sym turned.same) (c.self.invariant.0.core_room c.args.number old found) in
    subst (λ (r : RoundState). Rested r (round_of c.self.inside.plan.now t (set cores c.args.number new) now all.items (vec_capacity all)) c.args.number) c.self.view_is
    (subst (λ n. Rested (round_of c.self.inside.plan.now t cores before entries.items (vec_capacity entries)) (round_of c.self.inside.plan.now t (set cores c.args.number new) now all.items n) c.args.number) (sym c.in-NothingNow.ensures.capacity)
    (turn_on c.self.inside.plan.now t cores c.args.number old new before now entries.items all.items (vec_capacity entries) found room c.self.invariant.0 false
    (rests p t old before now entries.items new all.items c.in-NothingNow.ensures.turned.0 turned)))
