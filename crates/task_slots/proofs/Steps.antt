-- The steps of slots: a start, an answer to the activation that goes on, a direct start, an answer to the direct activation, a phase.
use Rattle.std.proofs.Common.{◌≡◌, inl, ℕ, ℤ, suc, zero, ◌+◌, ◌<◌, Bool, true, false, ◌&&◌, ◌||◌, ◌==◌, if◌then◌else◌, refl, sym, ◌∙◌, ap, subst, List, [], ◌∷◌, ◌++◌, length, Option, Some, None}
use Rattle.std.specs.Prelude.{nat_lt, is_none, unwrap_or}
use Rattle.bus_semantics.specs.Common.{list_all, list_any, slice_get, and_from, and_parts, eq-eqb, eqb-true, false≢true, or_left, or_right, same_Some, ActKey, words_of, same_key}
use Rattle.bus_semantics.specs.Common.{same_number, Plan, Runnable, caller_of, runnable_of_event, Wanted, to_start, to_move_on, to_end, wanted_by, History, Past, needs_event, started_before}
use Rattle.bus_semantics.specs.Common.{is_over, is_end, note, runs, first_machine, object_of, touched_by, key_fits, own_point, wish_fits, answer_fits, activation_fits, fits, direct_key}
use Rattle.bus_semantics.specs.Common.{accepted_point, asked_last, caller_has_asked, follows_program, Answers, is_proper, plain_key, IsSound, is_start, event_of}
use Rattle.bus_laws.specs.Common.{Machine, Act, Deed, Entry, Stamped, Mapping}
use Rattle.bus_semantics.specs.declared.entries.Deed.TheVariants as deed
use Rattle.history_laws.specs.Wishes.{is_of_a_call}
use Rattle.bus_laws.proofs.Thinning.{option_same, option_test}
use Rattle.history_laws.proofs.Keys.{begins}
use Rattle.port_objects.specs.Freed as freed
use Rattle.task_machine.specs.declared.instr.TaskSet.{TaskSet}
use Rattle.task_machine.specs.Standing.{Standing}
use Rattle.task_machine.specs.Frames.{Stands, IsMadeFor}
use Rattle.task_generator.specs.Promise.{AsksAsPlanned}
use Rattle.task_slots.specs.declared.slot.Slot.TheVariants as slot
use Rattle.task_slots.specs.declared.slot.TaskSlot.{TaskSlot}
use Rattle.task_slots.specs.Common.{Call, Activity, Free, Runs, Calls, Serves, call_at, call_in, is_key_of, may_be_mapped, is_answered, IsAsking, IsBegun, IsRunning, IsCalled, IsServing}
use Rattle.task_slots.specs.Common.{IsActive, TaskStands, event_for, IsEntryOf, IsTried, IsStartBy}
use Rattle.task_slots.specs.Direct.{going_on, after_deed, after_inside}
use Rattle.task_slots.specs.Slots.{starts, of_task}
use Rattle.task_slots.specs.Ready.{IsReadyTask}
use Rattle.task_slots.specs.Standing.{TaskSlotStands}
use Rattle.task_slots.specs.Stepping.{HasRoomOf, BegunBy, ServedBy, Heard, HeardInside, StepFollows, SlotStep}
use Rattle.task_slots.proofs.Basics.{same_keys, key_same}
use Rattle.task_slots.proofs.Until.{still_made}
use Rattle.task_slots.proofs.Facts.{direct_at, CallIs, call_is, direct_fits, direct_starts}
use Rattle.task_slots.proofs.Histories.{entry_by, bound_event, idle_free, unasked_free, start_follows}
use Rattle.task_slots.proofs.Begun.{direct_own, direct_apart}
use Rattle.task_slots.proofs.Changing.{called_at, start_stands, over_stands, answer_stands, call_stands, serve_stands, inside_stands, return_stands}
use Rattle.task_slots.proofs.Stepping as answer
use Rattle.task_slots.proofs.Starts.{key_of_event}
use Rattle.task_slots.proofs.Beginning as begun

-- ---- a task as it is after an entry

module _ (p : Plan) (t : TaskSet) (new : TaskSlot) (events : List ℕ) (frame inner : Standing) (a : Activity) (same : new.events.items ≡ events) (first : new.frame ≡ frame) (second : new.inner ≡ inner) (now : new.activity ≡ a) where
  seen : (h : History) → TaskStands p t h events frame inner a → TaskSlotStands p t h new
  seen h stands =
      subst (λ es. TaskStands p t h es new.frame new.inner new.activity) (sym same)
      (subst (λ f. TaskStands p t h events f new.inner new.activity) (sym first)
      (subst (λ f. TaskStands p t h events frame f new.activity) (sym second)
      (subst (TaskStands p t h events frame inner) (sym now) stands)))

  ready_as : list_all (may_be_mapped p) events ≡ true → IsMadeFor t frame → IsMadeFor t inner → IsActive p t events frame inner a → IsReadyTask p t new
  ready_as mapped made made_inner active = record {
    mapped = subst (λ es. list_all (may_be_mapped p) es ≡ true) (sym same) mapped;
    made = subst (IsMadeFor t) (sym first) made;
    made_inner = subst (IsMadeFor t) (sym second) made_inner;
    active =
        subst (λ es. IsActive p t es new.frame new.inner new.activity) (sym same)
        (subst (λ f. IsActive p t events f new.inner new.activity) (sym first)
        (subst (λ f. IsActive p t events frame f new.activity) (sym second)
        (subst (IsActive p t events frame inner) (sym now) active)));
  }

room_kept : (t : TaskSet) (old new : Standing) → HasRoomOf old new → IsMadeFor t old → IsMadeFor t new
room_kept t old new room made = still_made t old new room.room room.counters_room made

module _ (p : Plan) (m : Mapping) (sound : IsSound p m) (t : TaskSet) (old new : TaskSlot) (ready : IsReadyTask p t old) (s : Stamped) where
  abbrev events : List ℕ
  events = old.events.items

  abbrev d : Deed
  d = s.entry.deed

  listed : new.events ≡ old.events → new.events.items ≡ events
  listed same = ap (λ (v : _). v.items) same

  -- ---- a start by an event of the free task

  module _ (free : old.activity ≡ Free) (by : IsStartBy p events s) (begun_by : BegunBy t (plain_key by.runnable) s.entry.deed old new)
      (first : (k : ActKey) (r : Runnable) (event : ℕ) (start : List ℤ) → key_fits p k ≡ true → slice_get p.runnables k.runnable ≡ Some r → runnable_of_event p event ≡ Some k.runnable → (w : Wanted) × IsAsking p k r event start [] w) where
    mapped_event : may_be_mapped p by.event ≡ true
    mapped_event = all_listed events ready.mapped by.mapped
      where
        all_listed : (xs : List ℕ) → list_all (may_be_mapped p) xs ≡ true → list_any (λ e. e == by.event) xs ≡ true → may_be_mapped p by.event ≡ true
        all_listed [] all any = absurd (false≢true any)
        all_listed (x ∷ xs) all any = by_test (x == by.event) refl any (and_parts (may_be_mapped p x) (list_all (may_be_mapped p) xs) all) (λ rest more. all_listed xs rest more)
          where
            by_test : (b : Bool) → (x == by.event) ≡ b → (b || list_any (λ e. e == by.event) xs) ≡ true → (may_be_mapped p x ≡ true) × (list_all (may_be_mapped p) xs ≡ true)
                → (list_all (may_be_mapped p) xs ≡ true → list_any (λ e. e == by.event) xs ≡ true → may_be_mapped p by.event ≡ true) → may_be_mapped p by.event ≡ true
            by_test true same any parts rest = subst (λ e. may_be_mapped p e ≡ true) (eqb-true x by.event same) parts.0
            by_test false same any parts rest = rest parts.1 any

    own : is_key_of p events (plain_key by.runnable) ≡ true
    own = starts_one events by.mapped
      where
        starts_one : (xs : List ℕ) → list_any (λ e. e == by.event) xs ≡ true → starts p by.runnable xs ≡ true
        starts_one [] e = absurd (false≢true e)
        starts_one (x ∷ xs) e = by_test (x == by.event) refl e (λ f. starts_one xs f)
          where
            by_test : (b : Bool) → (x == by.event) ≡ b → (b || list_any (λ e. e == by.event) xs) ≡ true → (list_any (λ e. e == by.event) xs ≡ true → starts p by.runnable xs ≡ true)
                → (same_number (runnable_of_event p x) (Some by.runnable) || starts p by.runnable xs) ≡ true
            by_test true same any rest =
                or_left (same_number (runnable_of_event p x) (Some by.runnable)) (starts p by.runnable xs) (option_test (runnable_of_event p x) (Some by.runnable) (ap (runnable_of_event p) (eqb-true x by.event same) ∙ by.starts))
            by_test false same any rest = or_right (same_number (runnable_of_event p x) (Some by.runnable)) (starts p by.runnable xs) (rest any)

    fit : key_fits p (plain_key by.runnable) ≡ true
    fit = key_of_event p m sound by.event by.runnable mapped_event by.starts

    made : IsMadeFor t new.frame
    made = room_kept t old.frame new.frame begun_by.frame.room ready.made

    running : IsRunning p t events new.frame (plain_key by.runnable)
    running = record {
      plain = refl;
      own = own;
      begun = begun.start_begun p m sound t (plain_key by.runnable) by.event fit by.starts s by.entry (λ r start there. first (plain_key by.runnable) r by.event start fit there by.starts) new.frame begun_by.frame.stands;
    }

    follows : (g : History) → TaskStands p t g events old.frame old.inner Free → StepFollows p t g (slot.Task new) s
    follows g stands =
        let starts = begun.deed_is p m sound t (plain_key by.runnable) by.event fit by.starts s by.entry in
        let entry = begun.entry_is p m sound t (plain_key by.runnable) by.event fit by.starts s by.entry in
        let idle = stands.one (plain_key by.runnable) own in
        record {
          rule = subst (λ (e : Entry). follows_program p g e.actor e.deed ≡ true) (sym entry)
              (start_follows p g (plain_key by.runnable) (idle_free p g (plain_key by.runnable) idle) by.event starts.point starts.value by.starts idle refl);
          free = begun.start_touches p m sound t (plain_key by.runnable) by.event fit by.starts s by.entry g;
          noting = begun.start_noting p m sound t (plain_key by.runnable) by.event fit by.starts s by.entry g;
          stands = seen p t new events new.frame old.inner (Runs (plain_key by.runnable)) (listed begun_by.events) refl begun_by.inner begun_by.activity (s.entry ∷ g)
              (subst (λ e. TaskStands p t (e ∷ g) events new.frame old.inner (Runs (plain_key by.runnable))) (sym entry)
              (start_stands p t g events old.frame old.inner (plain_key by.runnable) by.event starts.point starts.value new.frame stands
              (subst (λ x. Stands t (plain_key by.runnable) x [] new.frame) starts.is begun_by.frame.stands)));
        }

    pub begun_step : SlotStep p t (slot.Task old) (slot.Task new) s
    begun_step = record {
      own = record { key = plain_key by.runnable; is = by.entry.actor; own = own };
      proper = begun.start_proper p m sound t (plain_key by.runnable) by.event fit by.starts s by.entry;
      table = ap of_task (listed begun_by.events);
      ready = ready_as p t new events new.frame old.inner (Runs (plain_key by.runnable)) (listed begun_by.events) refl begun_by.inner begun_by.activity ready.mapped made ready.made_inner running;
      follows = λ g stands. follows g (subst (TaskStands p t g events old.frame old.inner) free stands);
    }

  -- ---- an answer to the activation that goes on

  -- an accepted ask is at a point of its own
  caller_there : (k : ActKey) (by q : ℕ) (d : Deed) → accepted_point d ≡ Some q → wish_fits p (Act k) (wanted_by by d) ≡ true → caller_of p q ≡ Some k.runnable
  caller_there k by q (deed.Ask x value zero) asked fit =
      let same : x ≡ q = same_Some x q asked in
      let parts = and_parts (key_fits p k) (own_point p (Some k.runnable) x) fit in
      ap (caller_of p) (sym same) ∙ option_same (caller_of p x) (Some k.runnable) (and_parts (nat_lt x (length p.points)) _ parts.1).1
  caller_there k by q (deed.Ask x value (suc code)) asked fit = absurd (cc asked)
  caller_there k by q d asked fit = absurd (cc asked)

  module _ (bodies : AsksAsPlanned p t) (k : ActKey) (runs_it : old.activity ≡ Runs k) (heard : Heard p t k s.entry.deed old new) where
    abbrev pub running_now : IsRunning p t events old.frame k
    running_now = subst (IsActive p t events old.frame old.inner) runs_it ready.active

    module _ (is : IsEntryOf p (Act k) running_now.begun.wish s) (tried : IsTried p (Act k) running_now.begun.wish) (no_start : is_start running_now.begun.wish ≡ false)
        (named : (o : ℕ) → event_of running_now.begun.wish ≡ Some o → o ≡ running_now.begun.event)
        (further : (d : Deed) → IsAsking p k running_now.begun.runnable running_now.begun.event (words_of running_now.begun.value) running_now.begun.answers (wanted_by running_now.begun.event d) → is_over d ≡ false → is_answered p d ≡ true
        → (w : Wanted) × IsAsking p k running_now.begun.runnable running_now.begun.event (words_of running_now.begun.value) (running_now.begun.answers ++ d ∷ []) w)
        (answers : (d : Deed) (h : Past) → object_of p (Act k) running_now.begun.wish ≡ None → freed.IsFree running_now.begun.wish d → freed.is_free running_now.begun.wish ≡ true → Answers p h (record { entry = entry_by k d; event = None })) where
      abbrev b : IsBegun p t old.frame k
      b = running_now.begun

      made_now : IsMadeFor t new.frame
      made_now = room_kept t old.frame new.frame heard.room ready.made

      goes_on : is_over d ≡ false → IsRunning p t events new.frame k
      goes_on over = record { plain = running_now.plain; own = running_now.own; begun = answer.begun_further p m t bodies old.frame k b s is tried no_start named further new.frame over heard.fed }

      over_is : is_over d ≡ true → after_deed p k d ≡ Free
      over_is over = ap (λ v. if v then Free else going_on k (call_in p k d)) over

      going_is : (o : Option Call) → is_over d ≡ false → call_in p k d ≡ o → after_deed p k d ≡ going_on k o
      going_is o over called = ap (λ v. if v then Free else going_on k (call_in p k d)) over ∙ ap (going_on k) called

      call_made : (c : Call) → call_in p k d ≡ Some c → IsRunning p t events new.frame k → IsActive p t events new.frame old.inner (Calls c)
      call_made c called goes =
          let at = called_at p k d c called in
          let is_call = call_is p k at.point c at.is in
          let wish : wish_fits p (Act k) (wanted_by b.event d) ≡ true = ap (wish_fits p (Act k)) (answer.by_event p m t bodies old.frame k b s is tried no_start named) ∙ tried.fits in (
            subst (IsRunning p t events new.frame) (sym is_call.caller) goes,
            record {
              point = at.point;
              is = ap (λ j. call_at p j at.point) is_call.caller ∙ at.is;
              calls = caller_there k b.event at.point d at.asked wish ∙ ap (λ (j : ActKey). Some j.runnable) (sym is_call.caller);
            },
          )

      active_now : IsActive p t events new.frame old.inner (after_deed p k d)
      active_now = by_over (is_over d) refl
        where
          by_call : is_over d ≡ false → (o : Option Call) → call_in p k d ≡ o → IsActive p t events new.frame old.inner (after_deed p k d)
          by_call over None called = subst (IsActive p t events new.frame old.inner) (sym (going_is None over called)) (goes_on over)
          by_call over (Some c) called = subst (IsActive p t events new.frame old.inner) (sym (going_is (Some c) over called)) (call_made c called (goes_on over))

          by_over : (v : Bool) → is_over d ≡ v → IsActive p t events new.frame old.inner (after_deed p k d)
          by_over true over = subst (IsActive p t events new.frame old.inner) (sym (over_is over)) tt
          by_over false over = by_call over (call_in p k d) refl

      stands_now : (g : History) → TaskStands p t g events old.frame old.inner (Runs k) → TaskStands p t (entry_by k d ∷ g) events new.frame old.inner (after_deed p k d)
      stands_now g stands = by_over (is_over d) refl
        where
          other : begins d ≡ false
          other = answer.starts_nothing p m t bodies old.frame k b s is tried no_start named

          by_call : is_over d ≡ false → (o : Option Call) → call_in p k d ≡ o → TaskStands p t (entry_by k d ∷ g) events new.frame old.inner (after_deed p k d)
          by_call over None called =
              subst (TaskStands p t (entry_by k d ∷ g) events new.frame old.inner) (sym (going_is None over called)) (answer_stands p t g events old.frame old.inner k d new.frame stands other over heard.fed called)
          by_call over (Some c) called =
              subst (TaskStands p t (entry_by k d ∷ g) events new.frame old.inner) (sym (going_is (Some c) over called)) (call_stands p t g events old.frame old.inner k d new.frame stands other over heard.fed c called)

          by_over : (v : Bool) → is_over d ≡ v → TaskStands p t (entry_by k d ∷ g) events new.frame old.inner (after_deed p k d)
          by_over true over = subst (TaskStands p t (entry_by k d ∷ g) events new.frame old.inner) (sym (over_is over)) (over_stands p t g events old.frame old.inner k d new.frame stands over)
          by_over false over = by_call over (call_in p k d) refl

      heard_follows : (g : History) → TaskStands p t g events old.frame old.inner (Runs k) → StepFollows p t g (slot.Task new) s
      heard_follows g stands =
          let goes : runs k g ≡ true = stands.one k running_now.own ∙ same_keys k k refl in
          record {
            rule = answer.rule p m t bodies old.frame k b s is tried no_start named g stands.doing.frame goes stands.doing.free;
            free = answer.answered p m t bodies old.frame k b s is tried no_start named g stands.doing.frame goes answers;
            noting = answer.noting p m t bodies old.frame k b s is tried no_start named g stands.doing.frame goes;
            stands = seen p t new events new.frame old.inner (after_deed p k d) (listed heard.events) refl heard.inner heard.activity (s.entry ∷ g)
                (subst (λ e. TaskStands p t (e ∷ g) events new.frame old.inner (after_deed p k d)) (sym (answer.entry_is p m t bodies old.frame k b s is tried no_start named)) (stands_now g stands));
          }

      pub heard_step : SlotStep p t (slot.Task old) (slot.Task new) s
      heard_step = record {
        own = record { key = k; is = is.actor; own = running_now.own };
        proper = answer.proper p m t bodies old.frame k b s is tried no_start named;
        table = ap of_task (listed heard.events);
        ready = ready_as p t new events new.frame old.inner (after_deed p k d) (listed heard.events) refl heard.inner heard.activity ready.mapped made_now ready.made_inner active_now;
        follows = λ g stands. heard_follows g (subst (TaskStands p t g events old.frame old.inner) runs_it stands);
      }

  -- ---- the start of the direct activation

  module _ (c : Call) (calls_it : old.activity ≡ Calls c) (served : ServedBy t c s.entry.deed old new) (entry : IsEntryOf p (Act c.direct) (to_start c.event) s)
      (first : (k : ActKey) (r : Runnable) (event : ℕ) (start : List ℤ) → key_fits p k ≡ true → slice_get p.runnables k.runnable ≡ Some r → runnable_of_event p event ≡ Some k.runnable → (w : Wanted) × IsAsking p k r event start [] w) where
    calling : IsRunning p t events old.frame c.caller × IsCalled p c
    calling = subst (IsActive p t events old.frame old.inner) calls_it ready.active

    is_call : CallIs p c.caller calling.1.point c
    is_call = call_is p c.caller calling.1.point c calling.1.is

    direct_fit : key_fits p c.direct ≡ true
    direct_fit = direct_fits p m sound calling.1.point c.direct is_call.key

    starts_it : runnable_of_event p c.event ≡ Some c.direct.runnable
    starts_it = ap (runnable_of_event p) is_call.event ∙ direct_starts p m sound calling.1.point c.direct is_call.key

    direct_is_own : is_key_of p events c.direct ≡ true
    direct_is_own = direct_own p t events old.frame c calling.0 calling.1

    caller_plain : plain_key c.caller.runnable ≡ c.caller
    caller_plain = λ i. record { runnable = c.caller.runnable; point = sym calling.0.plain i }

    -- the caller has asked
    asked_for : (g : History) (q : ℕ) → direct_key p q ≡ Some c.direct → asked_last c.caller g ≡ Some q → caller_has_asked p g c.direct ≡ true
    asked_for g q key asked =
        let at = direct_at p q c.direct key in
        let here = direct_at p calling.1.point c.direct is_call.key in
        let same : calling.1.point ≡ q = same_Some calling.1.point q (sym here.point ∙ at.point) in
        let point = at.point in
        let calls : caller_of p q ≡ Some c.caller.runnable = ap (caller_of p) (sym same) ∙ calling.1.calls in
        let last : asked_last (plain_key c.caller.runnable) g ≡ Some q = ap (λ j. asked_last j g) caller_plain ∙ asked in
        rw (point, calls) (ap (λ o. same_number o (Some q)) last ∙ eq-eqb q q refl)

    serving : IsServing p t new.inner c
    serving = record {
      called = calling.1;
      begun = begun.start_begun p m sound t c.direct c.event direct_fit starts_it s entry (λ r start there. first c.direct r c.event start direct_fit there starts_it) new.inner served.inner.stands;
    }

    serve_follows : (g : History) → TaskStands p t g events old.frame old.inner (Calls c) → StepFollows p t g (slot.Task new) s
    serve_follows g stands =
        let starts = begun.deed_is p m sound t c.direct c.event direct_fit starts_it s entry in
        let same = begun.entry_is p m sound t c.direct c.event direct_fit starts_it s entry in
        let idle : runs c.direct g ≡ false = stands.one c.direct direct_is_own ∙ other_way (same_key c.direct c.caller) refl in
        record {
          rule = subst (λ (e : Entry). follows_program p g e.actor e.deed ≡ true) (sym same)
              (start_follows p g c.direct (idle_free p g c.direct idle) c.event starts.point starts.value starts_it idle (asked_for g stands.doing.point stands.doing.serves stands.doing.asked));
          free = begun.start_touches p m sound t c.direct c.event direct_fit starts_it s entry g;
          noting = begun.start_noting p m sound t c.direct c.event direct_fit starts_it s entry g;
          stands = seen p t new events old.frame new.inner (Serves c) (listed served.events) served.frame refl served.activity (s.entry ∷ g)
              (subst (λ e. TaskStands p t (e ∷ g) events old.frame new.inner (Serves c)) (sym same)
              (serve_stands p t g events old.frame old.inner c calling.0 calling.1 c.event starts.point starts.value new.inner stands
              (subst (λ x. Stands t c.direct x [] new.inner) starts.is served.inner.stands)));
        }
      where
        other_way : (v : Bool) → same_key c.direct c.caller ≡ v → v ≡ false
        other_way false same = refl
        other_way true same =
            absurd (false≢true (sym (direct_apart p t events old.frame c calling.0 calling.1) ∙ same_keys c.caller c.direct (sym (key_same c.direct c.caller same))))

    pub serve_step : SlotStep p t (slot.Task old) (slot.Task new) s
    serve_step = record {
      own = record { key = c.direct; is = entry.actor; own = direct_is_own };
      proper = begun.start_proper p m sound t c.direct c.event direct_fit starts_it s entry;
      table = ap of_task (listed served.events);
      ready = ready_as p t new events old.frame new.inner (Serves c) (listed served.events) served.frame refl served.activity ready.mapped ready.made (room_kept t old.inner new.inner served.inner.room ready.made_inner)
          (calling.0, serving);
      follows = λ g stands. serve_follows g (subst (TaskStands p t g events old.frame old.inner) calls_it stands);
    }

  -- ---- an answer to the direct activation

  -- the answer to no call is no accepted ask
  uncalling : (by : ℕ) (d : Deed) → is_of_a_call (wanted_by by d) ≡ false → accepted_point d ≡ None
  uncalling by (deed.Ask x value code) other = absurd (false≢true (sym other))
  uncalling by d other = refl

  -- what is over has ended, or was not admitted
  over_or_end : (by : ℕ) (d : Deed) → is_end d ≡ false → ((o : ℕ) → event_of (wanted_by by d) ≡ Some o → wanted_by by d ≡ to_end o) → is_over d ≡ false
  over_or_end by deed.End goes ends = absurd (false≢true (sym goes))
  over_or_end by (deed.Admit admitted) goes ends = absurd (cc (ends by refl))
  over_or_end by d goes ends = refl

  end_is : (d : Deed) → is_end d ≡ true → d ≡ deed.End
  end_is deed.End ends = refl
  end_is d ends = absurd (false≢true ends)

  module _ (bodies : AsksAsPlanned p t) (c : Call) (serves_it : old.activity ≡ Serves c) (heard : HeardInside t c s.entry.deed old new) where
    abbrev pub serving_now : IsRunning p t events old.frame c.caller × IsServing p t old.inner c
    serving_now = subst (IsActive p t events old.frame old.inner) serves_it ready.active

    module _ (is : IsEntryOf p (Act c.direct) serving_now.1.begun.wish s) (tried : IsTried p (Act c.direct) serving_now.1.begun.wish) (no_start : is_start serving_now.1.begun.wish ≡ false)
        (named : (o : ℕ) → event_of serving_now.1.begun.wish ≡ Some o → o ≡ serving_now.1.begun.event)
        (alone : is_of_a_call serving_now.1.begun.wish ≡ false)
        (ends : (o : ℕ) → event_of serving_now.1.begun.wish ≡ Some o → serving_now.1.begun.wish ≡ to_end o)
        (further : (d : Deed) → IsAsking p c.direct serving_now.1.begun.runnable serving_now.1.begun.event (words_of serving_now.1.begun.value) serving_now.1.begun.answers (wanted_by serving_now.1.begun.event d) → is_over d ≡ false → is_answered p d ≡ true
        → (w : Wanted) × IsAsking p c.direct serving_now.1.begun.runnable serving_now.1.begun.event (words_of serving_now.1.begun.value) (serving_now.1.begun.answers ++ d ∷ []) w)
        (answers : (d : Deed) (h : Past) → object_of p (Act c.direct) serving_now.1.begun.wish ≡ None → freed.IsFree serving_now.1.begun.wish d → freed.is_free serving_now.1.begun.wish ≡ true → Answers p h (record { entry = entry_by c.direct d; event = None })) where
      abbrev inside : IsBegun p t old.inner c.direct
      inside = serving_now.1.begun

      wish_is : wanted_by inside.event d ≡ inside.wish
      wish_is = answer.by_event p m t bodies old.inner c.direct inside s is tried no_start named

      inside_own : is_key_of p events c.direct ≡ true
      inside_own = direct_own p t events old.frame c serving_now.0 serving_now.1.called

      not_over : is_end d ≡ false → is_over d ≡ false
      not_over goes = over_or_end inside.event d goes (λ o has. wish_is ∙ ends o (ap event_of (sym wish_is) ∙ has))

      goes_inside : is_end d ≡ false → after_inside c d ≡ Serves c
      goes_inside goes = ap (λ v. if v then Runs c.caller else Serves c) goes

      ends_inside : is_end d ≡ true → after_inside c d ≡ Runs c.caller
      ends_inside ending = ap (λ v. if v then Runs c.caller else Serves c) ending

      active_inside : IsActive p t events old.frame new.inner (after_inside c d)
      active_inside = by_end (is_end d) refl
        where
          by_end : (v : Bool) → is_end d ≡ v → IsActive p t events old.frame new.inner (after_inside c d)
          by_end true ending = subst (IsActive p t events old.frame new.inner) (sym (ends_inside ending)) serving_now.0
          by_end false goes = subst (IsActive p t events old.frame new.inner) (sym (goes_inside goes)) (
            serving_now.0,
            record { called = serving_now.1.called; begun = answer.begun_further p m t bodies old.inner c.direct inside s is tried no_start named further new.inner (not_over goes) heard.fed },
          )

      stands_inside : (g : History) → TaskStands p t g events old.frame old.inner (Serves c) → TaskStands p t (entry_by c.direct d ∷ g) events old.frame new.inner (after_inside c d)
      stands_inside g stands = by_end (is_end d) refl
        where
          by_end : (v : Bool) → is_end d ≡ v → TaskStands p t (entry_by c.direct d ∷ g) events old.frame new.inner (after_inside c d)
          by_end true ending =
              subst (TaskStands p t (entry_by c.direct d ∷ g) events old.frame new.inner) (sym (ends_inside ending))
              (subst (λ x. TaskStands p t (entry_by c.direct x ∷ g) events old.frame new.inner (Runs c.caller)) (sym (end_is d ending)) (return_stands p t g events old.frame old.inner c serving_now.0 serving_now.1.called new.inner stands))
          by_end false goes =
              subst (TaskStands p t (entry_by c.direct d ∷ g) events old.frame new.inner) (sym (goes_inside goes))
              (inside_stands p t g events old.frame old.inner c serving_now.0 serving_now.1.called d new.inner (answer.starts_nothing p m t bodies old.inner c.direct inside s is tried no_start named) (not_over goes) goes
              (uncalling inside.event d (ap is_of_a_call wish_is ∙ alone)) heard.fed stands)

      inside_follows : (g : History) → TaskStands p t g events old.frame old.inner (Serves c) → StepFollows p t g (slot.Task new) s
      inside_follows g stands =
          let goes : runs c.direct g ≡ true = stands.one c.direct inside_own ∙ or_right (same_key c.direct c.caller) (same_key c.direct c.direct) (same_keys c.direct c.direct refl) in
          record {
            rule = answer.rule p m t bodies old.inner c.direct inside s is tried no_start named g stands.doing.1.frame goes (unasked_free p g c.direct stands.doing.1.alone);
            free = answer.answered p m t bodies old.inner c.direct inside s is tried no_start named g stands.doing.1.frame goes answers;
            noting = answer.noting p m t bodies old.inner c.direct inside s is tried no_start named g stands.doing.1.frame goes;
            stands = seen p t new events old.frame new.inner (after_inside c d) (listed heard.events) heard.frame refl heard.activity (s.entry ∷ g)
                (subst (λ e. TaskStands p t (e ∷ g) events old.frame new.inner (after_inside c d)) (sym (answer.entry_is p m t bodies old.inner c.direct inside s is tried no_start named)) (stands_inside g stands));
          }

      pub inside_step : SlotStep p t (slot.Task old) (slot.Task new) s
      inside_step = record {
        own = record { key = c.direct; is = is.actor; own = inside_own };
        proper = answer.proper p m t bodies old.inner c.direct inside s is tried no_start named;
        table = ap of_task (listed heard.events);
        ready = ready_as p t new events old.frame new.inner (after_inside c d) (listed heard.events) heard.frame refl heard.activity ready.mapped ready.made (room_kept t old.inner new.inner heard.room ready.made_inner) active_inside;
        follows = λ g stands. inside_follows g (subst (TaskStands p t g events old.frame old.inner) serves_it stands);
      }

-- ---- a phase

module _ (p : Plan) (t : TaskSet) (n : ℕ) (there : n < length p.machines) (s : Stamped) (entry : IsEntryOf p (Machine n) to_move_on s) (fit : wish_fits p (Machine n) to_move_on ≡ true) where
  entry_as : s.entry ≡ record { actor = Machine n; deed = s.entry.deed }
  entry_as = λ i. record { actor = entry.actor i; deed = s.entry.deed }

  unbound : needs_event s.entry.deed ≡ false
  unbound = by_needs (needs_event s.entry.deed) refl
    where
      by_needs : (v : Bool) → needs_event s.entry.deed ≡ v → v ≡ false
      by_needs false free = refl
      by_needs true bound = absurd (cc (sym (bound_event s.entry.deed 0 bound) ∙ ap event_of entry.wish))

  stamp_free : (o : Option ℕ) → event_for o to_move_on ≡ None
  stamp_free None = refl
  stamp_free (Some object) = refl

  unstamped : (g : History) → (note g s.entry).event ≡ None
  unstamped g = ap (λ v. if v then started_before s.entry.actor g else None) unbound

  touches_it : (g : History) → touched_by p (note g s.entry) ≡ Some (first_machine p + n)
  touches_it g =
      (λ i. if unbound i && is_none (note g s.entry).event then None else object_of p (entry.actor i) (wanted_by (unwrap_or (unstamped g i) 0) s.entry.deed)) ∙ ap (object_of p (Machine n)) entry.wish

  phase_follows : (g : History) → StepFollows p t g (slot.Machine n) s
  phase_follows g = record {
    rule = subst (λ a. follows_program p g a s.entry.deed ≡ true) (sym entry.actor) refl;
    free = λ none. absurd (cc (sym none ∙ touches_it g));
    noting = inl (λ i. record { entry = s.entry; event = (unstamped g ∙ sym (entry.event ∙ stamp_free (object_of p (Machine n) to_move_on))) i });
    stands = tt;
  }

  pub phase_step : SlotStep p t (slot.Machine n) (slot.Machine n) s
  phase_step = record {
    own = entry.actor;
    proper = subst (λ (e : Entry). is_proper p (record { entry = e; event = s.event }) ≡ true) (sym entry_as)
        (and_from (fits p (record { actor = Machine n; deed = s.entry.deed })) true
        (and_from _ (answer_fits p (Machine n) s.entry.deed) (ap (λ v. if v then activation_fits p (Machine n) else wish_fits p (Machine n) (wanted_by 0 s.entry.deed)) unbound ∙ ap (wish_fits p (Machine n)) entry.wish ∙ fit) entry.answer) refl);
    table = refl;
    ready = there;
    follows = λ g stands. phase_follows g;
  }
