-- What of the cores is awake, after an entry whose object told what came.
use Rattle.std.proofs.Common.{◌≡◌, ℕ, zero, suc, ◌+◌, ◌<◌, ◌==◌, Bool, true, false, ◌||◌, not, ◌⊎◌, inl, inr, refl, sym, ◌∙◌, ap, subst, arith, List, [], ◌∷◌, ◌++◌, length, get_or, map}
use Rattle.std.proofs.Common.{Option, Some, None}
use Rattle.bus_semantics.specs.Common.{option_map, Contains, slice_get, unsigned_Decides, Global, and_right, false≢true, get_or_from_slice_get, slice_get-get_or, slice_get_within}
use Rattle.bus_semantics.specs.Common.{slice_get-map, same_Some, Plan, kind_of, runnable_of_event, Noted, touched_by, object_of, object_of_kind, first_machine, machine_object, Try}
use Rattle.bus_semantics.specs.Common.{option_list, gathered, plain_key, start_try, to_start, to_move_on, to_hear, wanted_by, wish_fits, ActKey}
use Rattle.std.specs.Prelude.{Vec, unwrap_or}
use Rattle.std.proofs.lemmas.Bool.{and_left}
use Rattle.bus_semantics.specs.declared.entries.Actor.TheVariants.{Act, Machine}
use Rattle.task_machine.specs.declared.instr.TaskSet.{TaskSet}
use Rattle.object_kinds.specs.Kinds.{IsPlainStart}
use Rattle.port_objects.specs.declared.object.Object.{Object}
use Rattle.port_objects.specs.Common.{Kept, lead, kept_of, may_start_in, may_hear_in, heard_in, wakes, woken_in}
use Rattle.task_slots.specs.declared.slot.Slot.{Slot}
use Rattle.task_slots.specs.declared.slot.Slot.TheVariants as kind
use Rattle.core_turn.specs.Cores.{CoreState}
use Rattle.task_slots.specs.Slots.{events_of_slot}
use Rattle.task_slots.specs.Looking.{AllHeld, IsHeldOn, IsHeldAt}
use Rattle.task_slots.specs.Waiting.{idle_tries}
use Rattle.core_turn.specs.Awake.{AwakeState, StartsHeld, IsDeaf, IsQuiet}
use Rattle.core_runtime.specs.declared.seats.Seat.{Seat}
use Rattle.core_runtime.specs.Watching.{tables_of, IsOfCores, IsAt, AreSeated, IsWatched, AreWatched, is_awake, IsWoken, AreWoken, IsThere, IsSeen, Touches, AreRoused, AreAnswered, IsAfter}
use Rattle.latches.proofs.Places.{set_here, set_there}

-- ---- what the laws of objects say

abbrev pub NowhereLaw : Type 0
NowhereLaw = (p : Plan) (object : ℕ) (k : Kept) (event : ℕ) (n : Noted) → may_start_in k event ≡ false → IsPlainStart event n → lead p object k n ≡ None

abbrev pub OthersLaw : Type 0
OthersLaw = (p : Plan) (object : ℕ) (before after : Kept) (n : Noted) → lead p object before n ≡ Some after → wakes n.entry.deed ≡ false → (event : ℕ) → may_start_in before event ≡ false → may_start_in after event ≡ false

-- ---- flags

not_so : (a b : Bool) → a ≡ false → (a || not b) ≡ true → b ≡ false
not_so true b e seen = absurd (false≢true (sym e))
not_so false true e seen = absurd (false≢true seen)
not_so false false e seen = refl

slept_before : (a b : Bool) → (a ≡ true → b ≡ true) → b ≡ false → a ≡ false
slept_before true b keeps off = absurd (false≢true (sym off ∙ keeps refl))
slept_before false b keeps off = refl

-- an item of a mapped list comes of one
pub record Mapped (X Y : Type 0) (f : X → Y) (xs : List X) (i : ℕ) (y : Y) : Type 0 where
  pub item : X
  pub is : slice_get xs i ≡ Some item
  pub gives : f item ≡ y

pub mapped_found : {X Y : Type 0} (f : X → Y) (xs : List X) (i : ℕ) (y : Y) → slice_get (map f xs) i ≡ Some y → Mapped X Y f xs i y
mapped_found f [] i y e = absurd (cc e)
mapped_found f (x ∷ xs) zero y e = record { item = x; is = refl; gives = cc }
mapped_found f (x ∷ xs) (suc i) y e = let at = mapped_found f xs i y e in record { item = at.item; is = at.is; gives = at.gives }

-- ---- tries

held_first : (p : Plan) (objects : List Object) (xs ys : List Try) → AllHeld p objects (xs ++ ys) → AllHeld p objects xs
held_first p objects [] ys held = tt
held_first p objects (x ∷ xs) ys held = (held.0, held_first p objects xs ys held.1)

held_rest : (p : Plan) (objects : List Object) (xs ys : List Try) → AllHeld p objects (xs ++ ys) → AllHeld p objects ys
held_rest p objects [] ys held = held
held_rest p objects (x ∷ xs) ys held = held_rest p objects xs ys held.1

held_both : (p : Plan) (objects : List Object) (xs ys : List Try) → AllHeld p objects xs → AllHeld p objects ys → AllHeld p objects (xs ++ ys)
held_both p objects [] ys first rest = rest
held_both p objects (x ∷ xs) ys first rest = (first.0, held_both p objects xs ys first.1 rest)

-- each of these events
held_each : (p : Plan) (before later : List Object) (events : List ℕ) → ((j e : ℕ) → slice_get events j ≡ Some e → AllHeld p before (start_try p e) → AllHeld p later (start_try p e))
    → AllHeld p before (gathered (start_try p) events) → AllHeld p later (gathered (start_try p) events)
held_each p before later [] each held = tt
held_each p before later (e ∷ events) each held =
    held_both p later (start_try p e) (gathered (start_try p) events) (each zero e refl (held_first p before (start_try p e) (gathered (start_try p) events) held))
    (held_each p before later events (λ j x found. each (suc j) x found) (held_rest p before (start_try p e) (gathered (start_try p) events) held))

-- ---- an entry on one object

module _ (nowhere : NowhereLaw) (p : Plan) (before later : List Object) (e : Noted) (t : Touches p before later e) (event runnable : ℕ)
    (calm : IsHeldOn p before (Act (plain_key runnable)) (to_start event) t.object → may_start_in (kept_of t.new) event ≡ false) where
  at_object : (o : Option ℕ) → IsHeldAt p before (Act (plain_key runnable)) (to_start event) o → IsHeldAt p later (Act (plain_key runnable)) (to_start event) o
  at_object None held = held
  at_object (Some n) held = by_test (n == t.object) refl
    where
      by_test : (b : Bool) → (n == t.object) ≡ b → IsHeldOn p later (Act (plain_key runnable)) (to_start event) n
      by_test true same =
          let at : n ≡ t.object = (unsigned_Decides n t.object).0 same in
          let off = calm (subst (IsHeldOn p before (Act (plain_key runnable)) (to_start event)) at held) in
          subst (IsHeldOn p later (Act (plain_key runnable)) (to_start event)) (sym at) (record {
            before = t.new;
            found = ap (λ os. slice_get os t.object) t.others ∙ set_here before t.object t.old t.new t.found;
            none = λ m actor wish. nowhere p t.object (kept_of t.new) event m off (record { runnable = runnable; actor = actor; wish = wish });
            flag = λ r f actor wish. let same : event ≡ f = cc in subst (λ x. may_start_in (kept_of t.new) x ≡ false) same off;
          })
      by_test false other = record {
        before = held.before;
        found = ap (λ os. slice_get os n) t.others ∙ set_there before t.object n held.before t.new (λ at. false≢true (sym other ∙ (unsigned_Decides n t.object).1 at)) held.found;
        none = held.none;
        flag = held.flag;
      }

module _ (nowhere : NowhereLaw) (p : Plan) (before later : List Object) (e : Noted) (t : Touches p before later e) (event : ℕ)
    (calm : (runnable : ℕ) → IsHeldOn p before (Act (plain_key runnable)) (to_start event) t.object → may_start_in (kept_of t.new) event ≡ false) where
  one_moved : AllHeld p before (start_try p event) → AllHeld p later (start_try p event)
  one_moved = of_runnable (runnable_of_event p event)
    where
      of_runnable : (r : Option ℕ) → AllHeld p before (map (λ k. (Act (plain_key k), to_start event)) (option_list r)) → AllHeld p later (map (λ k. (Act (plain_key k), to_start event)) (option_list r))
      of_runnable None held = tt
      of_runnable (Some k) held = (at_object nowhere p before later e t event k (calm k) (object_of_kind p (kind_of p event)) held.0, tt)

-- a machine that the entry does not touch
pub machine_moved : (p : Plan) (before later : List Object) (e : Noted) (machine : ℕ) → IsAfter p before later e → (touched_by p e ≡ machine_object p (Some machine) → ⊥) → AllHeld p before ((Machine machine, to_move_on) ∷ []) → AllHeld p later ((Machine machine, to_move_on) ∷ [])
machine_moved p before later e machine (inl none) apart held = subst (λ os. AllHeld p os ((Machine machine, to_move_on) ∷ [])) (sym none.1) held
machine_moved p before later e machine (inr t) apart held = (
  record {
    before = held.0.before;
    found = ap (λ os. slice_get os (first_machine p + machine)) t.others
        ∙ set_there before t.object (first_machine p + machine) held.0.before t.new (λ at. apart (t.touching ∙ ap (λ n. Some n) (sym at))) held.0.found;
    none = held.0.none;
    flag = held.0.flag;
  },
  tt,
)

-- no phase comes of a machine whose slot sleeps
abbrev pub PhasesStay : Plan → (before later : List Object) → List CoreState → List AwakeState → Type 0
PhasesStay p before later cores awake = (i j machine : ℕ) (c : CoreState) (a : AwakeState) → slice_get cores i ≡ Some c → slice_get awake i ≡ Some a → slice_get c.slots j ≡ Some (kind.Machine machine) → get_or a.slots j false ≡ false
    → AllHeld p before ((Machine machine, to_move_on) ∷ []) → AllHeld p later ((Machine machine, to_move_on) ∷ [])

-- so it is if the slot of the machine that is touched is awake
pub roused_phases : (p : Plan) (before later : List Object) (e : Noted) (cores : List CoreState) (awake : List AwakeState) → IsAfter p before later e → AreRoused p e cores awake → PhasesStay p before later cores awake
roused_phases p before later e cores awake after roused = λ i j machine c a core_is awake_is slot_is sleeps held.
    machine_moved p before later e machine after (λ touching. false≢true (sym sleeps ∙ roused i j machine c a core_is awake_is slot_is touching)) held

-- ---- callers

abbrev pub DeafLaw : Type 0
DeafLaw = (p : Plan) (object : ℕ) (k : Kept) (n : Noted) (point : ℕ) → wanted_by (unwrap_or n.event 0) n.entry.deed ≡ to_hear point → may_hear_in k point ≡ false → lead p object k n ≡ None

abbrev pub ComesLaw : Type 0
ComesLaw = (p : Plan) (object point : ℕ) (k : Kept) (a : ActKey) → wish_fits p (Act a) (to_hear point) ≡ true → object_of p (Act a) (to_hear point) ≡ Some object
    → ((n : Noted) → n.entry.actor ≡ Act a → wanted_by (unwrap_or n.event 0) n.entry.deed ≡ to_hear point → lead p object k n ≡ None) → may_hear_in k point ≡ false

-- a caller to whose point the entry did not return
deaf_on : DeafLaw → ComesLaw → (p : Plan) (before later : List Object) (e : Noted) (t : Touches p before later e) (key : ActKey) (q object : ℕ) → wish_fits p (Act key) (to_hear q) ≡ true → object_of p (Act key) (to_hear q) ≡ Some object
    → (heard_in t.new ≡ Some q → ⊥) → IsHeldOn p before (Act key) (to_hear q) object → IsHeldOn p later (Act key) (to_hear q) object
deaf_on deaf comes p before later e t key q object fits there calm held = by_test (object == t.object) refl
  where
    off : object ≡ t.object → may_hear_in (kept_of t.new) q ≡ false
    off at = of_test (may_hear_in (kept_of t.new) q) refl
      where
        was : may_hear_in (kept_of t.old) q ≡ false
        was =
            let same : held.before ≡ t.old = same_Some _ _ (sym held.found ∙ ap (slice_get before) at ∙ t.found) in
            subst (λ o. may_hear_in (kept_of o) q ≡ false) same (comes p object q (kept_of held.before) key fits there held.none)

        of_test : (b : Bool) → may_hear_in (kept_of t.new) q ≡ b → may_hear_in (kept_of t.new) q ≡ false
        of_test false is = is
        of_test true is = absurd (calm (t.heard q was is))

    by_test : (b : Bool) → (object == t.object) ≡ b → IsHeldOn p later (Act key) (to_hear q) object
    by_test true same =
        let at : object ≡ t.object = (unsigned_Decides object t.object).0 same in
        record {
          before = t.new;
          found = ap (slice_get later) at ∙ ap (λ os. slice_get os t.object) t.others ∙ set_here before t.object t.old t.new t.found;
          none = λ m actor wish. deaf p object (kept_of t.new) m q wish (off at);
          flag = λ r f actor wish. absurd (cc wish);
        }
    by_test false other = record {
      before = held.before;
      found = ap (λ os. slice_get os object) t.others ∙ set_there before t.object object held.before t.new (λ at. false≢true (sym other ∙ (unsigned_Decides object t.object).1 at)) held.found;
      none = held.none;
      flag = held.flag;
    }

deaf_moved : DeafLaw → ComesLaw → (p : Plan) (ts : TaskSet) (before later : List Object) (e : Noted) (s : Slot) (d : IsDeaf p ts before s) → IsAfter p before later e → ((t : Touches p before later e) → heard_in t.new ≡ Some d.point → ⊥) → IsDeaf p ts later s
deaf_moved deaf comes p ts before later e s d (inl none) calm = subst (λ os. IsDeaf p ts os s) (sym none.1) d
deaf_moved deaf comes p ts before later e s d (inr t) calm =
    let first : AllHeld p before ((Act d.hears.key, to_hear d.point) ∷ []) = subst (AllHeld p before) d.hears.tries d.held in
    let on : IsHeldOn p before (Act d.hears.key) (to_hear d.point) d.hears.object = subst (IsHeldAt p before (Act d.hears.key) (to_hear d.point)) d.hears.there first.0 in
    let still = deaf_on deaf comes p before later e t d.hears.key d.point d.hears.object d.hears.fits d.hears.there (calm t) on in
    record {
      point = d.point;
      hears = d.hears;
      held = subst (AllHeld p later) (sym d.hears.tries) (subst (IsHeldAt p later (Act d.hears.key) (to_hear d.point)) (sym d.hears.there) still, tt);
    }

-- ---- all cores

module _ (nowhere : NowhereLaw) (others : OthersLaw) (p : Plan) (before later : List Object) (e : Noted) (cores : List CoreState) (old new : List AwakeState) (seats : List (Vec Seat Global))
    (seated : AreSeated (tables_of cores) seats) (woken : AreWoken old new) (phases : PhasesStay p before later cores old) (deaf : DeafLaw) (comes : ComesLaw) (ts : TaskSet) (answered : AreAnswered p ts before later e cores old) where
  -- each seat of the events that its object tells was looked at
  abbrev pub IsLookedAt : Touches p before later e → Type 0
  IsLookedAt t = (event : ℕ) (s : Seat) → Contains (woken_in t.new) event → IsAt seats event s → IsSeen (kept_of t.new) new event s

  -- so it is, or the entry makes no start come
  abbrev IsCalm : Touches p before later e → Type 0
  IsCalm t = (wakes e.entry.deed ≡ false) ⊎ IsLookedAt t

  module _ (t : Touches p before later e) (calm : IsCalm t) (n : ℕ) (c : CoreState) (b : AwakeState) (core_is : slice_get cores n ≡ Some c) (awake_is : slice_get new n ≡ Some b) where
    module _ (i j event : ℕ) (s : Slot) (slot_is : slice_get c.slots i ≡ Some s) (place_is : slice_get (events_of_slot s) j ≡ Some event) (sleeps : is_awake b i j ≡ false) where
      seat : Seat
      seat = record { core = n; slot = i; place = j }

      of_cores : IsOfCores (tables_of cores) event seat
      unfolding seat
      of_cores = record {
        tasks = map events_of_slot c.slots;
        core_is = slice_get-map (λ (k : CoreState). map events_of_slot k.slots) cores n ∙ ap (option_map (λ (k : CoreState). map events_of_slot k.slots)) core_is;
        seat = record {
          events = events_of_slot s;
          task_is = slice_get-map events_of_slot c.slots i ∙ ap (option_map events_of_slot) slot_is;
          seat = record { core_is = refl; slot_is = refl; place_is = place_is };
        };
      }

      -- what may start now and could not before is told, and sleeps at no seat
      off : IsCalm t → (runnable : ℕ) → IsHeldOn p before (Act (plain_key runnable)) (to_start event) t.object → may_start_in (kept_of t.new) event ≡ false
      unfolding seat
      off is runnable held = of_test is (may_start_in (kept_of t.new) event) refl
        where
          was : may_start_in (kept_of t.old) event ≡ false
          was = let same : held.before ≡ t.old = same_Some _ _ (sym held.found ∙ t.found) in subst (λ o. may_start_in (kept_of o) event ≡ false) same (held.flag runnable event refl refl)

          of_test : IsCalm t → (b : Bool) → may_start_in (kept_of t.new) event ≡ b → may_start_in (kept_of t.new) event ≡ false
          of_test is false now = now
          of_test (inl wakes_none) true now = others p t.object (kept_of t.old) (kept_of t.new) e t.leads wakes_none event was
          of_test (inr seen) true now = not_so (is_awake b i j) (may_start_in (kept_of t.new) event) sleeps (seen event seat (t.told event was now) (seated.all event seat of_cores) b awake_is)

      event_moved : AllHeld p before (start_try p event) → AllHeld p later (start_try p event)
      event_moved = one_moved nowhere p before later e t event (off calm)

  -- what sleeps is held still
  abbrev Moves : Type 0
  Moves = (n : ℕ) (c : CoreState) (b : AwakeState) → slice_get cores n ≡ Some c → slice_get new n ≡ Some b → (i j event : ℕ) (s : Slot) → slice_get c.slots i ≡ Some s → slice_get (events_of_slot s) j ≡ Some event
      → is_awake b i j ≡ false → AllHeld p before (start_try p event) → AllHeld p later (start_try p event)

  touched_moves : (t : Touches p before later e) → IsCalm t → Moves
  touched_moves t calm = λ n c b core_is awake_is i j event s slot_is place_is sleeps held. event_moved t calm n c b core_is awake_is i j event s slot_is place_is sleeps held

  same_moves : later ≡ before → Moves
  same_moves same = λ n c b core_is awake_is i j event s slot_is place_is sleeps held. subst (λ os. AllHeld p os (start_try p event)) (sym same) held

  module _ (moves : Moves) (after : IsAfter p before later e) (n : ℕ) (c : CoreState) (a b : AwakeState) (core_is : slice_get cores n ≡ Some c) (was_is : slice_get old n ≡ Some a) (awake_is : slice_get new n ≡ Some b) (one : IsWoken a b) where
    module _ (starts : StartsHeld p ts before c.slots b) where
      events_on : (i j event : ℕ) (s : Slot) (row : List Bool) → slice_get c.slots i ≡ Some s → slice_get b.events i ≡ Some row → slice_get (events_of_slot s) j ≡ Some event → slice_get row j ≡ Some false → AllHeld p later (start_try p event)
      events_on i j event s row slot_is row_is place_is sleeps =
          let here : get_or b.events i [] ≡ row = get_or_from_slice_get b.events i row [] row_is in
          let off_here : slice_get (get_or b.events i []) j ≡ Some false = ap (λ r. slice_get r j) here ∙ sleeps in
          let flag : get_or (get_or b.events i []) j false ≡ false = get_or_from_slice_get (get_or b.events i []) j false false off_here in
          moves n c b core_is awake_is i j event s slot_is place_is (and_right (get_or b.slots i false) (get_or (get_or b.events i []) j false) flag) (starts.events i j event s row slot_is row_is place_is sleeps)

      slots_on : (i : ℕ) (s : Slot) → slice_get c.slots i ≡ Some s → slice_get b.slots i ≡ Some false → slice_get b.waiting i ≡ Some false → IsQuiet p ts later s
      slots_on i s slot_is sleeps waits = of_quiet (starts.slots i s slot_is sleeps waits)
        where
          flag : get_or b.slots i false ≡ false
          flag = get_or_from_slice_get b.slots i false false sleeps

          of_slot : (s : Slot) → slice_get c.slots i ≡ Some s → AllHeld p before (idle_tries p s) → AllHeld p later (idle_tries p s)
          of_slot (kind.Task x) is held =
              held_each p before later x.events.items (λ j event place_is. moves n c b core_is awake_is i j event (kind.Task x) is place_is (and_left (get_or b.slots i false) (get_or (get_or b.events i []) j false) flag)) held
          of_slot (kind.Machine machine) is held = phases n i machine c a core_is was_is is (slept_before (get_or a.slots i false) (get_or b.slots i false) (one.slots i) flag) held

          of_quiet : IsQuiet p ts before s → IsQuiet p ts later s
          of_quiet (inl free) = inl (free.0, of_slot s slot_is free.1)
          of_quiet (inr d) = inr (deaf_moved deaf comes p ts before later e s d after (λ x is. false≢true (sym flag ∙ one.slots i (answered x n i d.point c a s core_is was_is slot_is d.hears is))))

      starts_on : StartsHeld p ts later c.slots b
      starts_on = record { events = events_on; slots = slots_on }

    watched_on : IsWatched p ts before c a → IsWatched p ts later c b
    watched_on watched = record { fits = one.fits c.slots c.first watched.fits; starts = starts_on (one.starts p ts before c.slots watched.starts) }

  all_watched : AreWatched p ts before cores old → IsAfter p before later e → Moves → AreWatched p ts later cores new
  all_watched watched after moves = record {
    count = woken.count ∙ watched.count;
    each = λ n c b core_is awake_is.
        let inside : n < length new = slice_get_within new n b awake_is in
        let within : n < length old = omega (arith, woken.count) in
        let a = get_or old n b in
        let was_is : slice_get old n ≡ Some a = slice_get-get_or old n b within in
        watched_on moves after n c a b core_is was_is awake_is (woken.each n a b was_is awake_is) (watched.each n c a core_is was_is);
  }

  pub after_entry : AreWatched p ts before cores old → IsAfter p before later e → ((t : Touches p before later e) → wakes e.entry.deed ≡ true → IsLookedAt t) → AreWatched p ts later cores new
  after_entry watched (inl none) loud = all_watched watched (inl none) (same_moves none.1)
  after_entry watched (inr t) loud = all_watched watched (inr t) (touched_moves t (calm (wakes e.entry.deed) refl))
    where
      calm : (b : Bool) → wakes e.entry.deed ≡ b → IsCalm t
      calm false quiet = inl quiet
      calm true on = inr (loud t on)

-- each seat has its flag
pub seats_there : (p : Plan) (t : TaskSet) (objects : List Object) (cores : List CoreState) (awake : List AwakeState) (seats : List (Vec Seat Global)) → AreWatched p t objects cores awake → AreSeated (tables_of cores) seats → (event : ℕ) (s : Seat) → IsAt seats event s → IsThere awake s
seats_there p t objects cores awake seats watched seated event s at =
    let of = seated.only event s at in
    let core = mapped_found (λ (k : CoreState). map events_of_slot k.slots) cores s.core of.tasks of.core_is in
    let slot = mapped_found events_of_slot core.item.slots s.slot of.seat.events (ap (λ ts. slice_get ts s.slot) core.gives ∙ of.seat.task_is) in
    let inside : s.core < length cores = slice_get_within cores s.core core.item core.is in
    let within : s.core < length awake = omega (arith, watched.count) in
    let fresh : AwakeState = record { slots = []; events = []; waiting = []; areas = []; first = 0 } in
    let a = get_or awake s.core fresh in
    let found : slice_get awake s.core ≡ Some a = slice_get-get_or awake s.core fresh within in
    let fits = (watched.each s.core core.item a core.is found).fits in
    let slot_in : s.slot < length core.item.slots = slice_get_within core.item.slots s.slot slot.item slot.is in
    let row_in : s.slot < length a.events = omega (arith, fits.rows) in
    let width : length (get_or a.events s.slot []) ≡ length (events_of_slot slot.item) = fits.widths s.slot slot.item (get_or a.events s.slot []) slot.is (slice_get-get_or a.events s.slot [] row_in) in
    let place_in : s.place < length of.seat.events = slice_get_within of.seat.events s.place event of.seat.seat.place_is in
    let same : length (events_of_slot slot.item) ≡ length of.seat.events = ap length slot.gives in
    record { core = a; core_is = found; slot = omega (arith, fits.count); place = omega (arith, width, same); even = record { waiting = fits.waiting ∙ sym fits.count; areas = fits.areas ∙ sym fits.count } }
