-- Where no activation runs: what objects hold may not follow, and if nothing else may come of its own, the bus is at rest.
use Rattle.std.proofs.Common.{◌≡◌, ℕ, ◌+◌, ◌<◌, Bool, true, false, refl, sym, ◌∙◌, ap, subst, arith, List, ◌∷◌, length, Option, Some, None}
use Rattle.std.specs.Prelude.{is_some, unwrap_or, IfSome}
use Rattle.bus_semantics.specs.Common.{slice_get, eqb-true, false≢true, ActKey, Plan, kind_of, server_of, runnable_of_event, Wanted, to_start, to_move_on, History, Noted, Past, noted, runs}
use Rattle.bus_semantics.specs.Common.{first_machine, object_of, object_of_kind, entries_of, IsObject, wish_fits, is_due, IsLegal, Follows, IsPastOf, NoneMayCome, times_mapped, plain_key}
use Rattle.bus_semantics.specs.Common.{start_try, IsStuck, AllStuck, IsAtRest}
use Rattle.bus_laws.specs.Common.{Returns, Actor, Machine, Act, Entry, Mapping}
use Rattle.history_laws.specs.Running.{GoesOn}
use Rattle.history_laws.proofs.Lists.{there_is}
use Rattle.bus_laws.proofs.OneEvent.{kind_at}
use Rattle.no_stall.proofs.Lists.{among_at}
use Rattle.no_stall.proofs.Tasks.{mapped}
use Rattle.no_stall.proofs.Tried.{start_stuck}
use Rattle.object_kinds.specs.Kinds.{IsPlainStart}
use Rattle.place_set.specs.Places.{NoneBetween}
use Rattle.port_objects.specs.declared.object.Object.{Object}
use Rattle.port_objects.specs.Common.{Kept, lead, kept_of, ArePlans, Stands, may_start_in}
use Rattle.trace_objects.specs.Resting.{Begins, IsPaused, Rests, StartComes, starts_of}
use Rattle.trace_objects.specs.Unrest.{is_mapped, LeadsNowhere, PhaseHeld, PhasesAmong, StartHeld, StartsAmong}
use Rattle.trace_objects.proofs.Mapped.{MappedEvent, mapped_event, own_key}
use Rattle.trace_objects.proofs.Pausing.{stuck_there, stuck_alone, start_begins, phase_begins, start_fits, started, all_free, rests}
use Rattle.trace_objects.proofs.Reached.{there}
use Rattle.trace_objects.proofs.Stuck.{below, each}

-- the laws that are used
pub record RestLaws (p : Plan) (h : History) : Type 0 where
  pub misses : (object : ℕ) (before : Kept) (l : Past) (n : Noted) → Stands p object before l → Follows p object l n → is_some (lead p object before n) ≡ true
  pub starts : (object : ℕ) (k : Kept) (event : ℕ) (n : Noted) → may_start_in k event ≡ false → IsPlainStart event n → lead p object k n ≡ None
  pub parts : (object : ℕ) (e : Entry) → IsLegal p (e ∷ h) → IsPastOf p object (entries_of p (e ∷ h) object)
  pub unjoined : (a : Actor) (event point : ℕ) → kind_of p event ≡ Returns point → server_of p point ≡ None → is_due p a event (noted h) ≡ false
  pub touched : (a : Actor) (w : Wanted) → wish_fits p a w ≡ true → IfSome (object_of p a w) (IsObject p)
  pub goes : (k : ActKey) → runs k h ≡ true → GoesOn p h k

module _ (p : Plan) (m : Mapping) (h : History) (objects : List Object) (paused : IsPaused p m h objects) (plans : ArePlans p objects) (laws : RestLaws p h) where
  held_stuck : (a : Actor) (w : Wanted) → Begins p h a w → (object : ℕ) → Some object ≡ object_of p a w → (o : Object) → slice_get objects object ≡ Some o → LeadsNowhere p object a w o → IsStuck p h (a, w)
  held_stuck a w begun object touching o is nowhere = stuck_there p m h paused.legal a w begun object touching (laws.parts object) none
    where
      none : NoneMayCome p a w (entries_of p h object)
      none n comes =
          let follows = subst (λ k. Follows p k (entries_of p h object) n) (ap (λ x. unwrap_or x 0) (sym touching)) comes.follows in
          let some = laws.misses object (kept_of o) (entries_of p h object) n (paused.stand object o is) follows in
          false≢true (sym (ap is_some (nowhere n comes.actor comes.wish)) ∙ some)

  phase_stuck : (n : ℕ) → n < length p.machines → PhaseHeld p objects n → IsStuck p h (Machine n, to_move_on)
  phase_stuck n less held =
      let place : first_machine p + n < length objects = omega (arith, less, plans.count) in
      let o = there_is objects (first_machine p + n) place in
      held_stuck (Machine n) to_move_on (phase_begins p h n) (first_machine p + n) refl o.0 o.1 (held o.0 o.1)

  start_held : (e r : ℕ) → is_mapped p e ≡ true → runnable_of_event p e ≡ Some r → StartHeld p objects e → IsStuck p h (Act (plain_key r), to_start e)
  start_held e r once own held = by_object (object_of_kind p (kind_of p e)) refl
    where
      fit : wish_fits p (Act (plain_key r)) (to_start e) ≡ true
      fit = start_fits p e (plain_key r) (own_key p m paused.sound e r once own) own

      by_object : (o : Option ℕ) → object_of_kind p (kind_of p e) ≡ o → IsStuck p h (Act (plain_key r), to_start e)
      by_object None none = stuck_alone p m h paused.sound laws.unjoined (Act (plain_key r)) (to_start e) refl fit none
      by_object (Some i) is =
          let within = there p (Act (plain_key r)) (to_start e) objects i (sym is) plans paused.sound.objects (laws.touched (Act (plain_key r)) (to_start e) fit) in
          let o = there_is objects i within in
          held_stuck (Act (plain_key r)) (to_start e) (start_begins p m h objects paused laws.goes e r own) i (sym is) o.0 o.1
          (λ n actor wish. laws.starts i (kept_of o.0) e n (held i o.0 is o.1) (record { runnable = r; actor = actor; wish = wish }))

  -- nothing else may come of its own
  pub at_rest : (events machines : List Bool) → StartsAmong p objects events → NoneBetween events 0 (length events) → PhasesAmong p objects machines → NoneBetween machines 0 (length machines) → IsAtRest p m h
  at_rest events machines starts no_start phases no_phase = rests p m h objects paused laws.goes
      (below p h (λ n. (Machine n, to_move_on)) (length p.machines) (λ n less.
      let inside : n < length machines = omega (arith, less, phases.count) in
      phase_stuck n less (phases.others n inside (no_phase n (omega arith) inside))))
      (each p h (starts_of p) m.tasks (λ i t found. each p h (start_try p) t.events (λ j e at. of_event e (mapped_event p m paused.sound i t found e (among_at t.events j e at)))))
    where
      of_event : (e : ℕ) → MappedEvent p e → AllStuck p h (start_try p e)
      of_event e is =
          let inside : e < length events = omega (arith, is.within, starts.count) in
          started p h e is.runnable is.own false (start_held e is.runnable is.once is.own (starts.others e inside (no_start e (omega arith) inside) is.once))

-- a start that comes is one of a task
pub start_awake : (p : Plan) (m : Mapping) (h : History) (objects : List Object) → IsPaused p m h objects → ((k : ActKey) → runs k h ≡ true → GoesOn p h k) → (e : ℕ) → e < length p.events → is_mapped p e ≡ true → StartComes p h e → IsAtRest p m h → ⊥
start_awake p m h objects paused goes e within once one rest =
    let v = there_is p.events e within in
    let kind = kind_at p e v.0 v.1 in
    let times : times_mapped p v.0.kind ≡ 1 = subst (λ k. times_mapped p k ≡ 1) kind (eqb-true (times_mapped p (kind_of p e)) 1 once) in
    let t = mapped p m paused.sound e v.0 v.1 times in
    one.comes (start_stuck p m h rest t.task e one.runnable (among_at m.tasks t.place t.task t.found) t.mapped (all_free p m h objects paused goes t.task) one.own)

pub rested : (p : Plan) (m : Mapping) (h : History) (b : Bool) → (b ≡ true → IsAtRest p m h) → (b ≡ false → IsAtRest p m h → ⊥) → Rests p m h b
rested p m h true rest awake = rest refl
rested p m h false rest awake = awake refl
