-- What of the cores is awake, once an event that has started sleeps.
use Rattle.std.proofs.Common.{◌≡◌, ℕ, false, sym, ◌∙◌, ap, subst, List, map, length-set, set, Option, Some, None}
use Rattle.std.specs.Prelude.{Vec}
use Rattle.bus_semantics.specs.Common.{option_map, slice_get, slice_get-map, same_Some, Global, Value, Noted, touched_by, Plan, kind_of, object_of_kind}
use Rattle.bus_semantics.specs.Common.{runnable_of_event, option_list, plain_key, start_try, to_start}
use Rattle.bus_semantics.specs.declared.entries.Actor.TheVariants.{Act}
use Rattle.bus_semantics.specs.declared.entries.Deed.{Deed}
use Rattle.bus_semantics.specs.declared.entries.Deed.TheVariants.{Start}
use Rattle.port_objects.specs.declared.object.Object.{Object}
use Rattle.port_objects.specs.Common.{kept_of, may_start_in}
use Rattle.task_machine.specs.declared.instr.TaskSet.{TaskSet}
use Rattle.task_slots.specs.declared.slot.Slot.{Slot}
use Rattle.task_slots.specs.Slots.{events_of_slot}
use Rattle.task_slots.specs.Looking.{AllHeld, IsHeldAt}
use Rattle.core_turn.specs.Cores.{CoreState}
use Rattle.core_turn.specs.Awake.{AwakeState, Fits, StartsHeld, WaitersHeld}
use Rattle.core_runtime.specs.declared.seats.Seat.{Seat}
use Rattle.core_runtime.specs.Watching.{tables_of, IsAt, AreSeated, AreWatched, AreWaiting, IsOverAt, IsWatched}
use Rattle.latches.proofs.Places.{Placed, here, there, placed}
use Rattle.core_runtime.proofs.Watched.{NowhereLaw}

-- ---- one core changes

module _ (p : Plan) (t : TaskSet) (objects : List Object) (cores : List CoreState) (xs : List AwakeState) (n : ℕ) (a b : AwakeState) (at : slice_get xs n ≡ Some a) where
  pub set_watched : ((slots : List Slot) (first : ℕ) → Fits slots first a → Fits slots first b) → ((c : CoreState) → slice_get cores n ≡ Some c → StartsHeld p t objects c.slots a → StartsHeld p t objects c.slots b)
      → AreWatched p t objects cores xs → AreWatched p t objects cores (set xs n b)
  set_watched fits starts watched = record {
    count = length-set xs n b ∙ watched.count;
    each = λ i c x core_is awake_is. of_place i c x core_is (placed xs n b i x awake_is);
  }
    where
      of_place : (i : ℕ) (c : CoreState) (x : AwakeState) → slice_get cores i ≡ Some c → Placed AwakeState xs n b i x → IsWatched p t objects c x
      of_place i c x core_is (here same is) =
          let had = watched.each i c a core_is (ap (slice_get xs) same ∙ at) in
          subst (IsWatched p t objects c) (sym is) (record { fits = fits c.slots c.first had.fits; starts = starts c (ap (slice_get cores) (sym same) ∙ core_is) had.starts })
      of_place i c x core_is (there other found) = watched.each i c x core_is found

  pub set_waiting : (touched : Option ℕ) → b.first ≡ a.first → ((slots : List Slot) (first : ℕ) → WaitersHeld p t objects touched slots first a → WaitersHeld p t objects touched slots first b)
      → AreWaiting p t objects touched cores xs → AreWaiting p t objects touched cores (set xs n b)
  set_waiting touched begins waiters waiting = λ i c x core_is awake_is. of_place i c x core_is (placed xs n b i x awake_is)
    where
      of_place : (i : ℕ) (c : CoreState) (x : AwakeState) → slice_get cores i ≡ Some c → Placed AwakeState xs n b i x → WaitersHeld p t objects touched c.slots x.first x
      of_place i c x core_is (here same is) =
          let had = waiters c.slots a.first (waiting i c a core_is (ap (slice_get xs) same ∙ at)) in
          subst (λ (y : AwakeState). WaitersHeld p t objects touched c.slots y.first y) (sym is) (subst (λ f. WaitersHeld p t objects touched c.slots f b) (sym begins) had)
      of_place i c x core_is (there other found) = waiting i c x core_is found

-- ---- an event that may not start

-- it is so where it stands
pub over_at : (p : Plan) (objects : List Object) (cores : List CoreState) (seats : List (Vec Seat Global)) (event : ℕ) (s : Seat) → AreSeated (tables_of cores) seats → IsAt seats event s → AllHeld p objects (start_try p event) → IsOverAt p objects cores s
over_at p objects cores seats event s seated at held = λ c core_is slot e slot_is place_is.
    let of = seated.only event s at in
    let tasks : Some (map events_of_slot c.slots) ≡ Some of.tasks =
    sym (slice_get-map (λ (k : CoreState). map events_of_slot k.slots) cores s.core ∙ ap (option_map (λ (k : CoreState). map events_of_slot k.slots)) core_is) ∙ of.core_is in
    let row : Some (events_of_slot slot) ≡ Some of.seat.events =
    sym (slice_get-map events_of_slot c.slots s.slot ∙ ap (option_map events_of_slot) slot_is) ∙ ap (λ ts. slice_get ts s.slot) (same_Some _ _ tasks) ∙ of.seat.task_is in
    let same : event ≡ e = same_Some _ _ (sym of.seat.seat.place_is ∙ ap (λ es. slice_get es s.place) (sym (same_Some _ _ row)) ∙ place_is) in
    subst (λ x. AllHeld p objects (start_try p x)) same held

-- it is so if the object for which it waits allows no start
pub over_held : NowhereLaw → (p : Plan) (objects : List Object) (number event : ℕ) (o : Object) → slice_get objects number ≡ Some o → object_of_kind p (kind_of p event) ≡ Some number → may_start_in (kept_of o) event ≡ false → AllHeld p objects (start_try p event)
over_held nowhere p objects number event o found at off = of_runnable (runnable_of_event p event)
  where
    of_runnable : (r : Option ℕ) → AllHeld p objects (map (λ k. (Act (plain_key k), to_start event)) (option_list r))
    of_runnable None = tt
    of_runnable (Some k) = (
      subst (IsHeldAt p objects (Act (plain_key k)) (to_start event)) (sym at) (record {
        before = o;
        found = found;
        none = λ m actor wish. nowhere p number (kept_of o) event m off (record { runnable = k; actor = actor; wish = wish });
        flag = λ r f actor wish. let same : event ≡ f = cc in subst (λ x. may_start_in (kept_of o) x ≡ false) same off;
      }),
      tt,
    )

-- a start touches the object for which its event waits
pub starts_touch : (p : Plan) (n : Noted) (event : ℕ) (point : Option ℕ) (value : Value) → n.entry.deed ≡ Start event point value → touched_by p n ≡ object_of_kind p (kind_of p event)
starts_touch p n event point value is = ap (λ (d : Deed). touched_by p (record { entry = record { actor = n.entry.actor; deed = d }; event = n.event })) is
