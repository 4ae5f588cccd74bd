-- A core of whose slots nothing may come is at rest.
use Rattle.std.proofs.Common.{◌≡◌, ℕ, zero, suc, Bool, true, false, not, ◌&&◌, ◌||◌, ◌==◌, if◌then◌else◌, refl, sym, ◌∙◌, ap, subst, List, [], ◌∷◌, ◌++◌, map, length, Option, Some, None}
use Rattle.std.specs.Prelude.{is_some, is_none, unwrap_or, nat_lt}
use Rattle.bus_semantics.specs.Common.{list_any, slice_get, option_map, and_from, and_parts, eq-eqb, eqb-true, false≢true, or_right, any_passes_from_place, same_Some, slice_get-map, ActKey}
use Rattle.bus_semantics.specs.Common.{same_number, same_key, Plan, positions, kind_of, server_of, queue_of, caller_of, runnable_of_event, Wanted, to_start, to_move_on, wanted_by, History}
use Rattle.bus_semantics.specs.Common.{Noted, Past, needs_event, started_before, note, noted, runs, last_started, served_by, object_of, touched_by, touches, entries_of, key_fits}
use Rattle.bus_semantics.specs.Common.{serves_directly, wish_fits, answer_fits, activation_fits, next_wish, direct_key, asked_last, is_held_back, is_this, is_wanted_next, may_start}
use Rattle.bus_semantics.specs.Common.{caller_has_asked, starts_or_goes_on, follows_program, has_unstarted, counts_for, is_due, is_due_kind, due_allows, MayFollow, IsLegal, is_start, Try}
use Rattle.bus_semantics.specs.Common.{plain_key, option_list, gathered, direct_try, event_runs, start_try, IsStuck, AllStuck, Follows, IsPastOf, IsSound, times_mapped}
use Rattle.bus_laws.specs.Common.{EventKind, Timing, Init, DataReceived, Invoked, Returns, ModeSwitch, Ack, Actor, Env, Machine, Act, Deed, Entry, Mapping, Task}
use Rattle.bus_semantics.specs.declared.entries.Deed.TheVariants as deed
use Rattle.bus_laws.proofs.OneEvent.{invoked_serves}
use Rattle.bus_laws.proofs.Thinning.{option_same, option_test}
use Rattle.history_laws.specs.LookUps.{clash}
use Rattle.history_laws.specs.Callers.{CallerWaits}
use Rattle.history_laws.specs.Running.{GoesOn}
use Rattle.history_laws.proofs.Keys.{wish_runs}
use Rattle.history_laws.proofs.OpenCalls.{kept_at}
use Rattle.port_objects.specs.declared.object.Object.{Object}
use Rattle.port_objects.specs.Common.{Kept, kept_of, Stands, lead}
use Rattle.task_machine.specs.declared.instr.TaskSet.{TaskSet}
use Rattle.task_machine.specs.Standing.{Standing}
use Rattle.task_generator.specs.Promise.{AsksAsPlanned}
use Rattle.task_slots.specs.declared.slot.Slot.{Slot}
use Rattle.task_slots.specs.declared.slot.Slot.TheVariants as of
use Rattle.task_slots.specs.declared.slot.Call.{Call}
use Rattle.task_slots.specs.declared.slot.Activity.{Activity}
use Rattle.task_slots.specs.declared.slot.Activity.TheVariants.{Free, Runs, Calls, Serves}
use Rattle.task_slots.specs.Direct.{served_event}
use Rattle.task_slots.specs.Slots.{starts, starts_at, home_by, is_key_of, is_running, next_tries, tries_of, slot_tries, of_task, of_machine, table_of}
use Rattle.task_slots.specs.Ready.{may_be_mapped, IsBegun, IsRunning, IsCalled, IsActive, IsReadySlot}
use Rattle.task_slots.specs.Standing.{StandsFor, IsHeldBack, ActivityStands, TaskStands, SlotStands}
use Rattle.task_slots.specs.Looking.{IsHeldAt, IsHeld, AllHeld}
use Rattle.task_slots.proofs.Basics.{key_same, same_keys}
use Rattle.task_slots.proofs.Facts.{returned_alone, event_known, direct_at, call_is, direct_kind}
use Rattle.task_slots.proofs.Histories.{idle_asked, held_now}
use Rattle.task_slots.proofs.Begun.{asked_is, direct_own}
use Rattle.task_slots.proofs.Stepping.{wants}
use Rattle.core_turn.specs.Cores.{CoreState, tasks_of_core, task_tables, machine_tables, tables_of_core}
use Rattle.core_turn.specs.Ready.{IsReady}
use Rattle.core_turn.specs.Standing.{CoreStands}
use Rattle.core_turn.specs.Resting.{calls_of, calls_by, calls_at, direct_calls, tries_of_task, machines_of, CoreRests}
use Rattle.core_turn.proofs.Places.{IsAmong, deeper, Passing, passing, mapped_from, kept_from}
use Rattle.core_turn.proofs.Mapped.{is_own, has_all}

-- ---- lists of tries

module _ (p : Plan) (h : History) where
  pub stuck_on : (ts us : List Try) → AllStuck p h ts → AllStuck p h us → AllStuck p h (ts ++ us)
  stuck_on [] us first last = last
  stuck_on (t ∷ ts) us first last = (first.0, stuck_on ts us first.1 last)

  pub stuck_first : (ts us : List Try) → AllStuck p h (ts ++ us) → AllStuck p h ts
  stuck_first [] us all = tt
  stuck_first (t ∷ ts) us all = (all.0, stuck_first ts us all.1)

  pub stuck_last : (ts us : List Try) → AllStuck p h (ts ++ us) → AllStuck p h us
  stuck_last [] us all = all
  stuck_last (t ∷ ts) us all = stuck_last ts us all.1

  pub stuck_each : {X : Type 0} (f : X → List Try) (xs : List X) → ((i : ℕ) (x : X) → slice_get xs i ≡ Some x → AllStuck p h (f x)) → AllStuck p h (gathered f xs)
  stuck_each f [] each = tt
  stuck_each f (x ∷ xs) each = stuck_on (f x) (gathered f xs) (each 0 x refl) (stuck_each f xs (λ i y found. each (suc i) y found))

  pub stuck_at : {X : Type 0} (f : X → List Try) (xs : List X) (i : ℕ) (x : X) → slice_get xs i ≡ Some x → AllStuck p h (gathered f xs) → AllStuck p h (f x)
  stuck_at f [] i x e all = absurd (cc e)
  stuck_at f (y ∷ xs) zero x e all = let same : y ≡ x = cc in subst (λ z. AllStuck p h (f z)) same (stuck_first (f y) (gathered f xs) all)
  stuck_at f (y ∷ xs) (suc i) x e all = stuck_at f xs i x e (stuck_last (f y) (gathered f xs) all)

  pub stuck_where : (b : Bool) (ts : List Try) → (b ≡ true → AllStuck p h ts) → AllStuck p h (if b then ts else [])
  stuck_where true ts all = all refl
  stuck_where false ts all = tt

  -- the next wish of a key, where it has one
  pub stuck_wish : (k : ActKey) (o : Option Wanted) → ((w : Wanted) → o ≡ Some w → IsStuck p h (Act k, w)) → AllStuck p h (gathered (λ w. (Act k, w) ∷ []) (option_list o))
  stuck_wish k None each = tt
  stuck_wish k (Some w) each = (each w refl, tt)

  pub wish_stuck : (k : ActKey) (o : Option Wanted) (w : Wanted) → o ≡ Some w → AllStuck p h (gathered (λ w. (Act k, w) ∷ []) (option_list o)) → IsStuck p h (Act k, w)
  wish_stuck k None w e all = absurd (cc e)
  wish_stuck k (Some v) w e all = let same : v ≡ w = cc in subst (λ u. IsStuck p h (Act k, u)) same all.0

  pub stuck_optional : {X : Type 0} (f : X → List Try) (o : Option X) → ((x : X) → o ≡ Some x → AllStuck p h (f x)) → AllStuck p h (gathered f (option_list o))
  stuck_optional f None each = tt
  stuck_optional f (Some x) each = stuck_on (f x) [] (each x refl) tt

  pub optional_stuck : {X : Type 0} (f : X → List Try) (o : Option X) (x : X) → o ≡ Some x → AllStuck p h (gathered f (option_list o)) → AllStuck p h (f x)
  optional_stuck f None x e all = absurd (cc e)
  optional_stuck f (Some y) x e all = let same : y ≡ x = cc in subst (λ z. AllStuck p h (f z)) same (stuck_first (f y) [] all)

  pub stuck_map : {X : Type 0} (f : X → Try) (xs : List X) → ((i : ℕ) (x : X) → slice_get xs i ≡ Some x → IsStuck p h (f x)) → AllStuck p h (map f xs)
  stuck_map f [] each = tt
  stuck_map f (x ∷ xs) each = (each 0 x refl, stuck_map f xs (λ i y found. each (suc i) y found))

-- ---- what is held by the objects may not follow

module _ (p : Plan) (m : Mapping) (sound : IsSound p m) (h : History) (legal : IsLegal p h) (goes_on : (k : ActKey) → runs k h ≡ true → GoesOn p h k) where
  -- an Admit or End that may follow has the event of its activation
  has_event : (e : Entry) → MayFollow p h e → needs_event e.deed ≡ true → is_none (note h e).event ≡ false
  has_event e may bound = ap (λ b. is_none (if b then started_before e.actor h else None)) bound ∙ by_actor e.actor e.deed bound fit may.actor
    where
      fit : activation_fits p e.actor ≡ true
      fit = sym (ap (λ b. if b then activation_fits p e.actor else wish_fits p e.actor (wanted_by 0 e.deed)) bound) ∙ (and_parts _ (answer_fits p e.actor e.deed) may.fit).0

      wanted : (k : ActKey) (d : Deed) → needs_event d ≡ true → starts_or_goes_on p h k d ≡ true → is_wanted_next p h k d ≡ true
      wanted k (deed.Admit admitted) bound rule = rule
      wanted k deed.End bound rule = rule
      wanted k d bound rule = absurd (false≢true bound)

      by_next : (k : ActKey) (v : Wanted) (o : Option Wanted) → next_wish p h k ≡ o → is_this v o ≡ true → is_none (last_started k h) ≡ false
      by_next k v None next is = absurd (false≢true is)
      by_next k v (Some w) next is = ap is_none (goes_on k (wish_runs p k h w next)).started

      by_actor : (a : Actor) (d : Deed) → needs_event d ≡ true → activation_fits p a ≡ true → follows_program p h a d ≡ true → is_none (started_before a h) ≡ false
      by_actor Env d bound fit rule = absurd (false≢true fit)
      by_actor (Machine n) d bound fit rule = absurd (false≢true fit)
      by_actor (Act k) d bound fit rule =
          by_next k (wanted_by (unwrap_or (last_started k h) 0) d) (next_wish p h k) refl (wanted k d bound (and_parts (starts_or_goes_on p h k d) (not (is_held_back p h k)) rule).0)

  touched_note : (e : Entry) → MayFollow p h e → touched_by p (note h e) ≡ object_of p e.actor (wanted_by (unwrap_or (note h e).event 0) e.deed)
  touched_note e may = ap (λ b. if b then None else object_of p e.actor (wanted_by (unwrap_or (note h e).event 0) e.deed)) (by_needs (needs_event e.deed) refl)
    where
      by_needs : (b : Bool) → needs_event e.deed ≡ b → (needs_event e.deed && is_none (note h e).event) ≡ false
      by_needs true bound = (λ i. bound i && has_event e may bound i)
      by_needs false free = ap (λ b. b && is_none (note h e).event) free

  module _ (objects : List Object) (stand : (i : ℕ) (o : Object) → slice_get objects i ≡ Some o → Stands p i (kept_of o) (entries_of p h i))
      (parts : (g : History) (object : ℕ) → IsLegal p g → IsPastOf p object (entries_of p g object))
      (misses_none : (object : ℕ) (before : Kept) (l : Past) (n : Noted) → Stands p object before l → Follows p object l n → is_some (lead p object before n) ≡ true)
      (never_due : (a : Actor) (event point : ℕ) → kind_of p event ≡ Returns point → server_of p point ≡ None → is_due p a event (noted h) ≡ false) where
    alone_stuck : (a : Actor) (by : ℕ) (d : Deed) → is_start (wanted_by by d) ≡ true → object_of p a (wanted_by by d) ≡ None → due_allows p (noted h) a d ≡ true → ⊥
    alone_stuck a by (deed.Start event point value) starts none due =
        let back = returned_alone p m sound event none in
        clash (is_due p a event (noted h)) due (never_due a event back.point back.kind back.unjoined)
    alone_stuck a by d starts none due = false≢true starts

    held_stuck : (t : Try) → IsHeld p objects t → IsStuck p h t
    held_stuck t held e is may = of_object (object_of p t.0 t.1) refl held
      where
        of_object : (o : Option ℕ) → object_of p t.0 t.1 ≡ o → IsHeldAt p objects t.0 t.1 o → ⊥
        of_object None touching starts =
            alone_stuck e.actor (unwrap_or (note h e).event 0) e.deed (ap (λ (u : Try). is_start u.1) is ∙ starts) (ap (λ (u : Try). object_of p u.0 u.1) is ∙ touching) may.answers.due
        of_object (Some object) touching held =
            let touched : touched_by p (note h e) ≡ Some object = touched_note e may ∙ ap (λ (u : Try). object_of p u.0 u.1) is ∙ touching in
            let touch : touches p object (note h e) ≡ true = ap (λ o. same_number o (Some object)) touched ∙ eq-eqb object object refl in
            let past : IsPastOf p object (note h e ∷ entries_of p h object) =
            subst (λ b. IsPastOf p object (if b then note h e ∷ entries_of p h object else entries_of p h object)) touch (parts (e ∷ h) object (legal, may)) in
            let some = misses_none object (kept_of held.before) (entries_of p h object) (note h e) (stand object held.before held.found) past.1 in
            let none = held.none (note h e) (ap (λ (u : Try). u.0) is) (ap (λ (u : Try). u.1) is) in
            false≢true (sym (ap is_some none) ∙ some)

    pub all_stuck : (ts : List Try) → AllHeld p objects ts → AllStuck p h ts
    all_stuck [] held = tt
    all_stuck (t ∷ ts) held = (held_stuck t held.0, all_stuck ts held.1)

-- who is held back makes no entry
pub back_stuck : (p : Plan) (h : History) (k : ActKey) (w : Wanted) → is_held_back p h k ≡ true → IsStuck p h (Act k, w)
back_stuck p h k w held e is may =
    let rule : follows_program p h (Act k) e.deed ≡ true = subst (λ a. follows_program p h a e.deed ≡ true) (ap (λ (u : Try). u.0) is) may.actor in
    false≢true (sym (ap not held) ∙ (and_parts (starts_or_goes_on p h k e.deed) (not (is_held_back p h k)) rule).1)

-- the events of a plain key that fits are those of tasks
pub plain_mapped : (p : Plan) (m : Mapping) → IsSound p m → (k : ActKey) (e : ℕ) → key_fits p k ≡ true → k.point ≡ None → runnable_of_event p e ≡ Some k.runnable → may_be_mapped p e ≡ true
plain_mapped p m sound k e fit plain starts = and_from (nat_lt e (length p.events)) (times_mapped p (kind_of p e) == 1) (event_known p e k.runnable starts) (by_kind (kind_of p e) refl)
  where
    not_directly : serves_directly p k ≡ false
    not_directly = is_false (serves_directly p k) (and_parts (nat_lt k.runnable (length p.runnables)) _ fitting).1
      where
        fitting : key_fits p (record { runnable = k.runnable; point = None }) ≡ true
        fitting = subst (λ (o : Option ℕ). key_fits p (record { runnable = k.runnable; point = o }) ≡ true) plain fit

        is_false : (b : Bool) → not b ≡ true → b ≡ false
        is_false false same = refl
        is_false true same = absurd (false≢true same)

    by_queue : (s : ℕ) → served_by p (Act k) ≡ Some s → (o : Option ℕ) → queue_of p s ≡ o → ((if is_some o then 1 else 0) == 1) ≡ true
    by_queue s served (Some most) queue = refl
    by_queue s served None queue = absurd (false≢true (sym not_directly ∙ rw (served, queue) refl))

    by_kind : (x : EventKind) → kind_of p e ≡ x → (times_mapped p x == 1) ≡ true
    by_kind (Invoked s) kind = by_queue s (invoked_serves p m sound e s k.runnable kind starts) (queue_of p s) refl
    by_kind (Timing period) kind = refl
    by_kind Init kind = refl
    by_kind (DataReceived x) kind = refl
    by_kind (Returns q) kind = refl
    by_kind (ModeSwitch n moment) kind = refl
    by_kind (Ack n) kind = refl

-- ---- a direct activation

-- its start: by its server's event
pub record DirectTry (p : Plan) (h : History) (q : ℕ) (t : Try) : Type 0 where
  pub caller : ℕ
  pub calls : caller_of p q ≡ Some caller
  pub asked : asked_last (plain_key caller) h ≡ Some q
  pub key : ActKey
  pub direct : direct_key p q ≡ Some key
  pub is : t ≡ (Act key, to_start (served_event p q))

-- each try of a point's direct activation is of this form
pub direct_tries_are : (p : Plan) (h : History) (q : ℕ) (each : (t : Try) → DirectTry p h q t → IsStuck p h t) → AllStuck p h (direct_try p h q)
direct_tries_are p h q each = by_caller (caller_of p q) refl
  where
    by_caller : (o : Option ℕ) → caller_of p q ≡ o → AllStuck p h (direct_try p h q)
    by_caller None none = rw none tt
    by_caller (Some r) calls = by_asked (same_number (asked_last (plain_key r) h) (Some q)) refl
      where
        by_direct : same_number (asked_last (plain_key r) h) (Some q) ≡ true → (o : Option ActKey) → direct_key p q ≡ o → AllStuck p h (direct_try p h q)
        by_direct asked None none = rw (calls, asked, none) tt
        by_direct asked (Some d) key =
            let at = direct_at p q d key in
            let joined = at.joined in
            let there = at.there in
            let event : served_event p q ≡ at.server.event = rw (joined, there) refl in
            let one : IsStuck p h (Act d, to_start at.server.event) =
            each (Act d, to_start at.server.event) (record { caller = r; calls = calls; asked = option_same (asked_last (plain_key r) h) (Some q) asked; key = d; direct = key; is = ap (λ e. (Act d, to_start e)) (sym event) }) in
            rw (calls, asked, key, joined, there) (one, tt)

        by_asked : (b : Bool) → same_number (asked_last (plain_key r) h) (Some q) ≡ b → AllStuck p h (direct_try p h q)
        by_asked true asked = by_direct asked (direct_key p q) refl
        by_asked false other = rw (calls, other) tt

-- one of them that is stuck with all
pub direct_try_stuck : (p : Plan) (h : History) (q : ℕ) (t : Try) → DirectTry p h q t → AllStuck p h (direct_try p h q) → IsStuck p h t
direct_try_stuck p h q t made all =
    let at = direct_at p q made.key made.direct in
    let joined = at.joined in
    let there = at.there in
    let calls = made.calls in
    let key = made.direct in
    let asked : same_number (asked_last (plain_key made.caller) h) (Some q) ≡ true = option_test (asked_last (plain_key made.caller) h) (Some q) made.asked in
    let event : served_event p q ≡ at.server.event = rw (joined, there) refl in
    let one : AllStuck p h ((Act made.key, to_start at.server.event) ∷ []) = rw (calls, asked, key, joined, there) at all in
    subst (IsStuck p h) (ap (λ e. (Act made.key, to_start e)) (sym event) ∙ sym made.is) one.0

-- a key that asked runs
pub asked_runs : (k : ActKey) (h : History) (q : ℕ) → asked_last k h ≡ Some q → runs k h ≡ true
asked_runs k h q asked = by_test (runs k h) refl
  where
    by_test : (b : Bool) → runs k h ≡ b → b ≡ true
    by_test true is = refl
    by_test false is = absurd (cc (sym asked ∙ idle_asked k h is))

-- the start of an activation that runs
pub running_stuck : (p : Plan) (h : History) (d : ActKey) (event : ℕ) → runs d h ≡ true → IsStuck p h (Act d, to_start event)
running_stuck p h d event running e is may = by_deed e.deed (ap (λ (u : Try). u.1) is) (subst (λ a. follows_program p h a e.deed ≡ true) (ap (λ (u : Try). u.0) is) may.actor)
  where
    by_deed : (x : Deed) → wanted_by (unwrap_or (note h e).event 0) x ≡ to_start event → follows_program p h (Act d) x ≡ true → ⊥
    by_deed (deed.Start event point value) wish rule =
        let start : may_start p h d event ≡ true = (and_parts (may_start p h d event) (not (is_held_back p h d)) rule).0 in
        let idle : not (runs d h) ≡ true = (and_parts (same_number (runnable_of_event p event) (Some d.runnable)) (not (runs d h)) (and_parts _ (caller_has_asked p h d) start).0).1 in
        false≢true (sym (ap not running) ∙ idle)
    by_deed x wish rule = cc wish

-- the start of a direct activation with no request left
pub begun_stuck : (p : Plan) (m : Mapping) → IsSound p m → (h : History) (q : ℕ) (d : ActKey) → direct_key p q ≡ Some d → (has_unstarted (λ r. q == r) (noted h) ≡ true → ⊥) → IsStuck p h (Act d, to_start (served_event p q))
begun_stuck p m sound h q d key none e is may = by_deed e.deed (ap (λ (u : Try). u.1) is) (subst (λ a. due_allows p (noted h) a e.deed ≡ true) (ap (λ (u : Try). u.0) is) may.answers.due)
  where
    by_deed : (x : Deed) → wanted_by (unwrap_or (note h e).event 0) x ≡ to_start (served_event p q) → due_allows p (noted h) (Act d) x ≡ true → ⊥
    by_deed (deed.Start event point value) wish due =
        let same : event ≡ served_event p q = cc wish in
        let at = direct_at p q d key in
        let kind : kind_of p event ≡ Invoked at.number = ap (kind_of p) same ∙ direct_kind p m sound q d key in
        let unstarted : has_unstarted (counts_for p at.number d.point) (noted h) ≡ true = subst (λ x. is_due_kind p (Act d) event x (noted h) ≡ true) kind due in
        none (subst (λ o. has_unstarted (counts_for p at.number o) (noted h) ≡ true) at.point unstarted)
    by_deed x wish due = cc wish

-- ---- a task

module _ (p : Plan) (m : Mapping) (sound : IsSound p m) (ts : TaskSet) (bodies : AsksAsPlanned p ts) (h : History)
    (running_waits : (q : ℕ) (k : ActKey) → direct_key p q ≡ Some k → runs k h ≡ true → CallerWaits p q k h)
    (unstarted_waits : (q : ℕ) (k : ActKey) → direct_key p q ≡ Some k → has_unstarted (λ r. q == r) (noted h) ≡ true → CallerWaits p q k h) where
  module _ (events : List ℕ) (frame inner : Standing) (a : Activity) (active : IsActive p ts events frame inner a) (stands : TaskStands p ts h events frame inner a) (stuck : AllStuck p h (tries_of p ts events frame inner a)) where
    -- what an activation of the task tries next
    next_stuck : (f : Standing) (k : ActKey) (b : IsBegun p ts f k) → StandsFor ts h f k → runs k h ≡ true → AllStuck p h (next_tries ts k f) → (w : Wanted) → next_wish p h k ≡ Some w → IsStuck p h (Act k, w)
    next_stuck f k b stands_it running all w next =
        let wish : b.wish ≡ w = same_Some _ _ (sym (wants p m ts bodies f k b h stands_it running).next ∙ next) in
        subst (λ v. IsStuck p h (Act k, v)) wish (subst (λ o. AllStuck p h (map (λ w. (Act k, w)) (option_list o))) (asked_is p ts bodies f k b) all).0

    held : (f : Standing) (c : Call) → IsHeldBack p ts h f c → is_held_back p h c.caller ≡ true
    held f c back = held_now p h c.caller c.direct back.point back.asked back.serves back.waits

    -- a plain key of the task that runs
    plain_stuck : (r : ℕ) → starts p r events ≡ true → (w : Wanted) → next_wish p h (plain_key r) ≡ Some w → IsStuck p h (Act (plain_key r), w)
    plain_stuck r own w next = by_activity a active stands.doing stuck (sym (stands.one (plain_key r) own) ∙ running)
      where
        running : runs (plain_key r) h ≡ true
        running = wish_runs p (plain_key r) h w next

        of_caller : (c : Call) → IsHeldBack p ts h frame c → plain_key r ≡ c.caller → IsStuck p h (Act (plain_key r), w)
        of_caller c back same = back_stuck p h (plain_key r) w (ap (is_held_back p h) same ∙ held frame c back)

        by_activity : (a : Activity) → IsActive p ts events frame inner a → ActivityStands p ts h frame inner a → AllStuck p h (tries_of p ts events frame inner a) → is_running (plain_key r) a ≡ true → IsStuck p h (Act (plain_key r), w)
        by_activity Free active doing stuck is = absurd (false≢true is)
        by_activity (Runs k) active doing stuck is =
            let same = key_same (plain_key r) k is in
            subst (λ j. IsStuck p h (Act j, w)) (sym same) (next_stuck frame k active.begun doing.frame (ap (λ j. runs j h) (sym same) ∙ running) stuck w (ap (next_wish p h) (sym same) ∙ next))
        by_activity (Calls c) active doing stuck is = of_caller c doing (key_same (plain_key r) c.caller is)
        by_activity (Serves c) active doing stuck is = by_test (same_key (plain_key r) c.caller) refl is
          where
            by_test : (b : Bool) → same_key (plain_key r) c.caller ≡ b → (b || same_key (plain_key r) c.direct) ≡ true → IsStuck p h (Act (plain_key r), w)
            by_test true same is = of_caller c doing.0 (key_same (plain_key r) c.caller same)
            by_test false other is =
                let at = direct_at p active.1.called.point c.direct (call_is p c.caller active.1.called.point c active.1.called.is).key in
                absurd (cc (ap (λ (k : ActKey). k.point) (key_same (plain_key r) c.direct is) ∙ at.point))

    calls_stuck : AllStuck p h (gathered (calls_by p h) events)
    calls_stuck =
        stuck_each p h (calls_by p h) events (λ i e found.
        stuck_optional p h (λ r. calls_of p h (plain_key r)) (runnable_of_event p e) (λ r is.
        stuck_wish p h (plain_key r) (next_wish p h (plain_key r)) (λ w next. plain_stuck r (is_own p m sound events i e r found is) w next)))

    -- ---- the direct activations that it calls

    module _ (q : ℕ) (here : starts_at p (caller_of p q) events ≡ true) where
      direct_is_own : (d : ActKey) → direct_key p q ≡ Some d → is_key_of p events d ≡ true
      direct_is_own d key = ap (λ o. starts_at p (home_by p d.runnable o) events) (direct_at p q d key).point ∙ here

      has_point : {X : Type 0} (d k : ActKey) → direct_key p q ≡ Some d → k.point ≡ None → same_key d k ≡ true → X
      has_point d k key plain same = absurd (cc (sym plain ∙ ap (λ (j : ActKey). j.point) (sym (key_same d k same)) ∙ (direct_at p q d key).point))

      -- it runs
      inside_stuck : (d : ActKey) → direct_key p q ≡ Some d → (w : Wanted) → next_wish p h d ≡ Some w → IsStuck p h (Act d, w)
      inside_stuck d key w next = by_activity a active stands.doing stuck (sym (stands.one d (direct_is_own d key)) ∙ running)
        where
          running : runs d h ≡ true
          running = wish_runs p d h w next

          by_activity : (a : Activity) → IsActive p ts events frame inner a → ActivityStands p ts h frame inner a → AllStuck p h (tries_of p ts events frame inner a) → is_running d a ≡ true → IsStuck p h (Act d, w)
          by_activity Free active doing stuck is = absurd (false≢true is)
          by_activity (Runs k) active doing stuck is = has_point d k key active.plain is
          by_activity (Calls c) active doing stuck is = has_point d c.caller key active.0.plain is
          by_activity (Serves c) active doing stuck is = by_test (same_key d c.caller) refl is
            where
              by_test : (b : Bool) → same_key d c.caller ≡ b → (b || same_key d c.direct) ≡ true → IsStuck p h (Act d, w)
              by_test true same is = has_point d c.caller key active.0.plain same
              by_test false other is =
                  let same = key_same d c.direct is in
                  subst (λ j. IsStuck p h (Act j, w)) (sym same)
                  (next_stuck inner c.direct active.1.begun doing.1.frame (ap (λ j. runs j h) (sym same) ∙ running) stuck w (ap (next_wish p h) (sym same) ∙ next))

      -- it is called, or was
      started_stuck : (t : Try) → DirectTry p h q t → IsStuck p h t
      started_stuck t made = subst (IsStuck p h) (sym made.is) (by_activity a active stands.doing stands.one stuck (sym (stands.one (plain_key made.caller) own) ∙ asked_runs (plain_key made.caller) h q made.asked))
        where
          own : is_key_of p events (plain_key made.caller) ≡ true
          own = sym (ap (λ o. starts_at p o events) made.calls) ∙ here

          -- the call of the held caller is at this point
          at_point : (c : Call) (back : IsHeldBack p ts h frame c) → plain_key made.caller ≡ c.caller → back.point ≡ q
          at_point c back same = same_Some back.point q (sym back.asked ∙ ap (λ j. asked_last j h) (sym same) ∙ made.asked)

          direct_same : (c : Call) (back : IsHeldBack p ts h frame c) → plain_key made.caller ≡ c.caller → made.key ≡ c.direct
          direct_same c back same = same_Some made.key c.direct (sym made.direct ∙ ap (direct_key p) (sym (at_point c back same)) ∙ back.serves)

          goes : (k : ActKey) → is_held_back p h k ≡ false → plain_key made.caller ≡ k → IsStuck p h (Act made.key, to_start (served_event p q))
          goes k free same = begun_stuck p m sound h q made.key made.direct (λ unstarted. still (unstarted_waits q made.key made.direct unstarted))
            where
              still : CallerWaits p q made.key h → ⊥
              still w =
                  let who : plain_key w.caller ≡ k = ap plain_key (same_Some w.caller made.caller (sym w.calls ∙ made.calls)) ∙ same in
                  let back : is_held_back p h k ≡ true = ap (is_held_back p h) (sym who) ∙ held_now p h (plain_key w.caller) made.key q w.asked made.direct w.waits in
                  false≢true (sym free ∙ back)

          called : (c : Call) → IsCalled p c → IsHeldBack p ts h frame c → plain_key made.caller ≡ c.caller → IsStuck p h (Act c.direct, to_start c.event) → IsStuck p h (Act made.key, to_start (served_event p q))
          called c call back same stuck =
              let is_call = call_is p c.caller call.point c call.is in
              let point : call.point ≡ back.point = same_Some call.point back.point (sym (direct_at p call.point c.direct is_call.key).point ∙ (direct_at p back.point c.direct back.serves).point) in
              let event : c.event ≡ served_event p q = is_call.event ∙ ap (served_event p) (point ∙ at_point c back same) in
              subst (λ e. IsStuck p h (Act made.key, to_start e)) event (subst (λ j. IsStuck p h (Act j, to_start c.event)) (sym (direct_same c back same)) stuck)

          served : (c : Call) → IsRunning p ts events frame c.caller → IsCalled p c → IsHeldBack p ts h frame c → runs c.direct h ≡ true → plain_key made.caller ≡ c.caller → IsStuck p h (Act made.key, to_start (served_event p q))
          served c r call back running same = running_stuck p h made.key (served_event p q) (ap (λ j. runs j h) (direct_same c back same) ∙ running)

          by_activity : (a : Activity) → IsActive p ts events frame inner a → ActivityStands p ts h frame inner a → ((k : ActKey) → is_key_of p events k ≡ true → runs k h ≡ is_running k a) → AllStuck p h (tries_of p ts events frame inner a)
              → is_running (plain_key made.caller) a ≡ true → IsStuck p h (Act made.key, to_start (served_event p q))
          by_activity Free active doing one stuck is = absurd (false≢true is)
          by_activity (Runs k) active doing one stuck is = goes k doing.free (key_same (plain_key made.caller) k is)
          by_activity (Calls c) active doing one stuck is = called c active.1 doing (key_same (plain_key made.caller) c.caller is) stuck.0
          by_activity (Serves c) active doing one stuck is = by_test (same_key (plain_key made.caller) c.caller) refl is
            where
              direct_runs : runs c.direct h ≡ true
              direct_runs =
                  one c.direct (direct_own p ts events frame c active.0 active.1.called)
                  ∙ or_right (same_key c.direct c.caller) (same_key c.direct c.direct) (same_keys c.direct c.direct refl)

              by_test : (b : Bool) → same_key (plain_key made.caller) c.caller ≡ b → (b || same_key (plain_key made.caller) c.direct) ≡ true → IsStuck p h (Act made.key, to_start (served_event p q))
              by_test true same is = served c active.0 active.1.called doing.0 direct_runs (key_same (plain_key made.caller) c.caller same)
              by_test false other is =
                  let at = direct_at p active.1.called.point c.direct (call_is p c.caller active.1.called.point c active.1.called.is).key in
                  absurd (cc (ap (λ (k : ActKey). k.point) (key_same (plain_key made.caller) c.direct is) ∙ at.point))

      point_stuck : AllStuck p h (calls_at p h q)
      point_stuck =
          stuck_on p h (gathered (calls_of p h) (option_list (direct_key p q))) (direct_try p h q)
          (stuck_optional p h (calls_of p h) (direct_key p q) (λ d key. stuck_wish p h d (next_wish p h d) (λ w next. inside_stuck d key w next)))
          (direct_tries_are p h q (λ t made. started_stuck t made))

    direct_stuck : AllStuck p h (direct_calls p h events)
    direct_stuck = stuck_each p h (λ q. if starts_at p (caller_of p q) events then calls_at p h q else []) (positions (length p.points)) (λ i q found.
        stuck_where p h (starts_at p (caller_of p q) events) (calls_at p h q) (λ here. point_stuck q here))

    -- ---- the starts

    module _ (task : Task) (among : IsAmong m.tasks task) (same : task.events ≡ events) where
      -- the event of the activation that a task's event started runs
      taken : (k : ActKey) → IsRunning p ts events frame k → StandsFor ts h frame k → runs k h ≡ true → list_any (event_runs p h) events ≡ true
      taken k r stands_it running = of_place (passing (λ d. d == r.begun.event) events listed)
        where
          plain : k ≡ plain_key k.runnable
          plain = λ i. record { runnable = k.runnable; point = r.plain i }

          busy : event_runs p h r.begun.event ≡ true
          busy =
              let last : last_started k h ≡ Some r.begun.event = (wants p m ts bodies frame k r.begun h stands_it running).last in
              let starts_it = r.begun.asks.starts in
              rw starts_it (subst (λ j. (runs j h && same_number (last_started j h) (Some r.begun.event)) ≡ true) plain (and_from (runs k h) _ running (option_test (last_started k h) (Some r.begun.event) last)))

          starts_here : starts p k.runnable events ≡ true
          starts_here = sym (ap (λ o. starts_at p (home_by p k.runnable o) events) r.plain) ∙ r.own

          listed : list_any (λ d. d == r.begun.event) events ≡ true
          listed = subst (λ es. list_any (λ d. d == r.begun.event) es ≡ true) same
              (has_all p m sound task r.begun.event k.runnable among (subst (λ es. starts p k.runnable es ≡ true) (sym same) starts_here) r.begun.asks.starts (plain_mapped p m sound k r.begun.event r.begun.fits r.plain r.begun.asks.starts))

          of_place : Passing (λ d. d == r.begun.event) events → list_any (event_runs p h) events ≡ true
          of_place at = any_passes_from_place (event_runs p h) events at.at.place at.item at.at.found (ap (event_runs p h) (eqb-true at.item r.begun.event at.passes) ∙ busy)

      none_starts : list_any (event_runs p h) events ≡ true → AllStuck p h (if not (list_any (event_runs p h) events) then gathered (start_try p) events else [])
      none_starts any = stuck_where p h (not (list_any (event_runs p h) events)) (gathered (start_try p) events) (λ free. absurd (false≢true (sym (ap not any) ∙ free)))

      starts_stuck : AllStuck p h (if not (list_any (event_runs p h) events) then gathered (start_try p) events else [])
      starts_stuck = by_activity a active stands.doing stands.one stuck
        where
          of_caller : (c : Call) → IsRunning p ts events frame c.caller → IsHeldBack p ts h frame c → AllStuck p h (if not (list_any (event_runs p h) events) then gathered (start_try p) events else [])
          of_caller c r back = none_starts (taken c.caller r back.frame (asked_runs c.caller h back.point back.asked))

          by_activity : (a : Activity) → IsActive p ts events frame inner a → ActivityStands p ts h frame inner a → ((k : ActKey) → is_key_of p events k ≡ true → runs k h ≡ is_running k a) → AllStuck p h (tries_of p ts events frame inner a)
              → AllStuck p h (if not (list_any (event_runs p h) events) then gathered (start_try p) events else [])
          by_activity Free active doing one stuck = stuck_where p h (not (list_any (event_runs p h) events)) (gathered (start_try p) events) (λ free. stuck)
          by_activity (Runs k) active doing one stuck = none_starts (taken k active doing.frame (one k active.own ∙ same_keys k k refl))
          by_activity (Calls c) active doing one stuck = of_caller c active.0 doing
          by_activity (Serves c) active doing one stuck = of_caller c active.0 doing.0

      pub task_stuck : AllStuck p h (tries_of_task p h task)
      task_stuck =
          subst (λ es. AllStuck p h (gathered (calls_by p h) es ++ direct_calls p h es ++ (if not (list_any (event_runs p h) es) then gathered (start_try p) es else []))) (sym same)
          (stuck_on p h (gathered (calls_by p h) events ++ direct_calls p h events) _ (stuck_on p h (gathered (calls_by p h) events) (direct_calls p h events) calls_stuck direct_stuck) starts_stuck)

-- ---- a core

-- what stands in the last part of a list
in_last : {X : Type 0} (xs ys : List X) (x : X) → IsAmong ys x → IsAmong (xs ++ ys) x
in_last [] ys x at = at
in_last (y ∷ xs) ys x at = deeper y (xs ++ ys) x (in_last xs ys x at)

module _ (p : Plan) (m : Mapping) (ts : TaskSet) (bodies : AsksAsPlanned p ts) (h : History)
    (running_waits : (q : ℕ) (k : ActKey) → direct_key p q ≡ Some k → runs k h ≡ true → CallerWaits p q k h)
    (unstarted_waits : (q : ℕ) (k : ActKey) → direct_key p q ≡ Some k → has_unstarted (λ r. q == r) (noted h) ≡ true → CallerWaits p q k h)
    (c : CoreState) (ready : IsReady p m ts c) (stands : CoreStands p ts h c) (stuck : AllStuck p h (gathered (slot_tries p ts) c.slots)) where
  of_task_slot : (task : Task) → IsAmong m.tasks task → (s : Slot) → table_of s ≡ of_task task.events → IsReadySlot p ts s → SlotStands p ts h s → AllStuck p h (slot_tries p ts s) → AllStuck p h (tries_of_task p h task)
  of_task_slot task among (of.Machine n) table ready_it stands_it stuck_it = absurd (cc table)
  of_task_slot task among (of.Task s) table ready_it stands_it stuck_it =
      let same : s.events.items ≡ task.events = cc table in
      task_stuck p m ready.sound ts bodies h running_waits unstarted_waits s.events.items s.frame s.inner s.activity ready_it.active stands_it stuck_it task among (sym same)

  of_machine_slot : (n : ℕ) (s : Slot) → table_of s ≡ of_machine n → AllStuck p h (slot_tries p ts s) → IsStuck p h (Machine n, to_move_on)
  of_machine_slot n (of.Task s) table stuck_it = absurd (cc table)
  of_machine_slot n (of.Machine k) table stuck_it = let same : k ≡ n = cc table in subst (λ j. IsStuck p h (Machine j, to_move_on)) same stuck_it.0

  machines_stuck : (n : ℕ) → n ≡ c.number → AllStuck p h (machines_of p n)
  machines_stuck (suc n) is = tt
  machines_stuck zero is = stuck_map p h (λ k. (Machine k, to_move_on)) (positions (length p.machines)) (λ i k found.
      let tables : slice_get (machine_tables p 0) i ≡ Some (of_machine k) = slice_get-map of_machine (positions (length p.machines)) i ∙ ap (option_map of_machine) found in
      let at = in_last (task_tables m 0) (machine_tables p 0) (of_machine k) (record { place = i; found = tables }) in
      let slot = mapped_from table_of c.slots at.place (of_machine k) (ap (λ xs. slice_get xs at.place) (ready.has ∙ ap (tables_of_core p m) (sym is)) ∙ at.found) in
      of_machine_slot k slot.from slot.is (stuck_at p h (slot_tries p ts) c.slots slot.at.place slot.from slot.at.found stuck))

  pub core_rests : CoreRests p m h c.number
  core_rests = stuck_on p h (gathered (tries_of_task p h) (tasks_of_core m c.number)) (machines_of p c.number) (stuck_each p h (tries_of_task p h) (tasks_of_core m c.number) (λ i task found. each_task i task found)) (machines_stuck c.number refl)
    where
      each_task : (i : ℕ) (task : Task) → slice_get (tasks_of_core m c.number) i ≡ Some task → AllStuck p h (tries_of_task p h task)
      each_task i task found =
          let table : slice_get (task_tables m c.number) i ≡ Some (of_task task.events) = slice_get-map (λ (t : Task). of_task t.events) (tasks_of_core m c.number) i ∙ ap (option_map (λ (t : Task). of_task t.events)) found in
          let slot = mapped_from table_of c.slots i (of_task task.events) (ap (λ xs. slice_get xs i) ready.has ∙ kept_at (task_tables m c.number) (machine_tables p c.number) i (of_task task.events) table) in
          let place = slot.at.place in
          of_task_slot task (kept_from (λ (t : Task). t.core == c.number) m.tasks i task found).at slot.from slot.is (ready.each place slot.from slot.at.found) (stands place slot.from slot.at.found)
          (stuck_at p h (slot_tries p ts) c.slots place slot.from slot.at.found stuck)
