-- What a machine keeps after each entry that touches it, as its calls make it of what it kept before.
use Rattle.std.proofs.Common.{◌≡◌, ℕ, suc, Bool, true, false, not, ◌&&◌, ◌||◌, ◌==◌, if◌then◌else◌, refl, sym, ◌∙◌, ap, List, [], ◌∷◌, ◌++◌, length, map, drop, set, replicate, Option, Some, None}
use Rattle.bus_semantics.specs.Common.{list_any, slice_get, eq-eqb, eqb-true, false≢true, get_or_from_slice_get, Value, Step, Plan, kind_of, positions, Noted, Past, modes_of, phase_of}
use Rattle.bus_semantics.specs.Common.{stage_of, settled_of, next_of, waits_of, is_stable_phase, is_close, accepted_switches, closes_of, owes_moment, is_start_by, is_end_by}
use Rattle.bus_semantics.specs.Common.{started_in_phase, is_done, admitted_runs, runs_by}
use Rattle.std.proofs.lemmas.List.{drop-append-le}
use Rattle.rte_value.specs.declared.kinds.Step.TheVariants as step
use Rattle.bus_semantics.specs.declared.entries.Actor.{Actor}
use Rattle.bus_semantics.specs.declared.entries.Actor.TheVariants.{Machine}
use Rattle.bus_semantics.specs.declared.entries.Deed.TheVariants as deed
use Rattle.mode_machine.specs.declared.owed.OwedEvent.{OwedEvent}
use Rattle.mode_machine.specs.declared.disabling.Admitted.{Admitted}
use Rattle.mode_machine.specs.declared.disabling.Admitted.TheVariants.{Yes, No, Runs}
use Rattle.mode_machine.specs.Disabling.{Dependency, idle_dependency}
use Rattle.mode_machine.specs.Kept as machines
use Rattle.mode_machine.specs.Owed as owed
use Rattle.object_kinds.specs.Layout.{place}
use Rattle.object_kinds.proofs.Events.{events_all, events_once}
use Rattle.object_kinds.proofs.Lists.{map_all, filled_all, mapped_at, all_at, all_filter}
use Rattle.object_kinds.proofs.Placing.{place_at, set_all, other_way}
use Rattle.object_kinds.proofs.Positions.{distinct_positions}
use Rattle.object_kinds.proofs.Proper.{noting}
use Rattle.machine_objects.specs.Layout.{IsMachine, machine_of, places_of, waits_for_phase, waits_for_end, owed_events, ack_events, moment_in, moment_at, may_disable, disabled_events}
use Rattle.machine_objects.specs.Layout.{disabling_modes, starts_elsewhere}
use Rattle.machine_objects.specs.Leading.{is_answered}
use Rattle.machine_objects.specs.Standing.{owed_after, acked_after, dependency_after, machine_after}
use Rattle.machine_objects.proofs.Picking.{mapped_through, one_less}
use Rattle.machine_objects.proofs.Moves.{no_phase, stage_stays, next_stays, settled_stays, stable_stays, closes_stay, acked_next, owed_stays, owed_started, owed_ended, done_begun, stage_is}
use Rattle.machine_objects.proofs.Moves.{next_is, settled_is, stable_is, closes_is, owed_phase, acked_phase}
use Rattle.machine_objects.proofs.Touches.{differ, owed_no_ack, ack_not_owed, owed_here}
use Rattle.machine_objects.proofs.Past.{InOrder, accepted_is}

-- ---- an entry that is no phase

-- where the machine stands it still stands
abbrev pub machine_with : Plan → (machine : ℕ) → Past → (unbegun : List ℕ) → List OwedEvent → List Bool → List Dependency → machines.Kept
machine_with p m l unbegun events acks disablings = record {
  modes = modes_of p m;
  queue = places_of p m;
  waits = waits_of p m;
  stage = stage_of m l;
  settled = settled_of p m l;
  next = next_of p m l;
  was_stable = list_any (λ n. is_stable_phase (phase_of m n)) l;
  unbegun = unbegun;
  owed = events;
  acks = acks;
  disablings = disablings;
}

-- the entry is no start, no end and no admission by the event
record IsQuiet (e : ℕ) (n : Noted) : Type 0 where
  start : is_start_by e n ≡ false
  end : is_end_by e n ≡ false
  run : runs_by e n ≡ None

module _ (p : Plan) (m : ℕ) (n : Noted) (l : Past) (none : phase_of m n ≡ None) where
  rests : (unbegun : List ℕ) (events : List OwedEvent) (acks : List Bool) (disablings : List Dependency) → drop (closes_of m (n ∷ l)) (accepted_switches m (n ∷ l)) ≡ unbegun → map (owed_after p m (n ∷ l)) (owed_events p m) ≡ events
      → map (acked_after m (n ∷ l)) (ack_events p m) ≡ acks → map (dependency_after p (n ∷ l)) (disabled_events p m) ≡ disablings → machine_after p m (n ∷ l) ≡ machine_with p m l unbegun events acks disablings
  rests unbegun events acks disablings unbegun_is owed_is acks_is disablings_is = λ i. record {
    modes = modes_of p m;
    queue = places_of p m;
    waits = waits_of p m;
    stage = stage_stays p m n l none i;
    settled = settled_stays p m n l none i;
    next = next_stays p m n l none i;
    was_stable = stable_stays p m n l none i;
    unbegun = unbegun_is i;
    owed = owed_is i;
    acks = acks_is i;
    disablings = disablings_is i;
  }

  owed_rest : ((e : ℕ) → waits_for_phase m (kind_of p e) ≡ true → IsQuiet e n) → map (owed_after p m (n ∷ l)) (owed_events p m) ≡ map (owed_after p m l) (owed_events p m)
  owed_rest quiet = map_all (λ e. waits_for_phase m (kind_of p e)) (owed_after p m (n ∷ l)) (owed_after p m l) (owed_events p m) (events_all p (waits_for_phase m))
      (λ e waits. let q = quiet e waits in owed_stays p m n l none e q.start q.end q.run)

  acks_rest : ((e : ℕ) → waits_for_end m (kind_of p e) ≡ true → is_start_by e n ≡ false) → map (acked_after m (n ∷ l)) (ack_events p m) ≡ map (acked_after m l) (ack_events p m)
  acks_rest quiet = map_all (λ e. waits_for_end m (kind_of p e)) (acked_after m (n ∷ l)) (acked_after m l) (ack_events p m) (events_all p (waits_for_end m))
      (λ e waits. acked_next p m n l none e ∙ ap (λ b. not b && acked_after m l e) (quiet e waits))

  -- the events of the machine whose places one entry changes
  owed_changed : (e i : ℕ) (b : OwedEvent) → place e (owed_events p m) ≡ Some i → owed_after p m (n ∷ l) e ≡ b → ((f : ℕ) → (e == f) ≡ false → IsQuiet f n) → map (owed_after p m (n ∷ l)) (owed_events p m) ≡ set (map (owed_after p m l) (owed_events p m)) i b
  owed_changed e i b at here quiet = sym (set_all (λ f. waits_for_phase m (kind_of p f)) (owed_after p m l) (owed_after p m (n ∷ l)) b e (owed_events p m) i (events_all p (waits_for_phase m)) (events_once p (waits_for_phase m)) at here
      (λ f waits off. let q = quiet f off in sym (owed_stays p m n l none f q.start q.end q.run)))

  dependencies_changed : (e d : ℕ) (b : Dependency) → place e (disabled_events p m) ≡ Some d → dependency_after p (n ∷ l) e ≡ b → ((f : ℕ) → (e == f) ≡ false → dependency_after p l f ≡ dependency_after p (n ∷ l) f)
      → map (dependency_after p (n ∷ l)) (disabled_events p m) ≡ set (map (dependency_after p l) (disabled_events p m)) d b
  dependencies_changed e d b at here others = sym (set_all (may_disable p m) (dependency_after p l) (dependency_after p (n ∷ l)) b e (disabled_events p m) d (all_filter (may_disable p m) (positions (length p.events)))
      (distinct_positions (may_disable p m) (length p.events)) at here (λ f may off. others f off))

-- ---- what stands at the place of an event

module _ (p : Plan) (m : ℕ) (l : Past) (e : ℕ) where
  pub owed_at_is : (i : ℕ) → place e (owed_events p m) ≡ Some i → machines.owed_at i (machine_after p m l) ≡ owed_after p m l e
  owed_at_is i at = get_or_from_slice_get (map (owed_after p m l) (owed_events p m)) i (owed_after p m l e) owed.idle_event (mapped_at (owed_after p m l) (owed_events p m) i e (place_at e (owed_events p m) i at))

  pub dependency_at_is : (d : ℕ) → place e (disabled_events p m) ≡ Some d → machines.dependency_at d (machine_after p m l) ≡ dependency_after p l e
  dependency_at_is d at = get_or_from_slice_get (map (dependency_after p l) (disabled_events p m)) d (dependency_after p l e) (idle_dependency []) (mapped_at (dependency_after p l) (disabled_events p m) d e (place_at e (disabled_events p m) d at))

  pub acked_at_is : (i : ℕ) → place e (ack_events p m) ≡ Some i → slice_get (machine_after p m l).acks i ≡ Some (acked_after m l e)
  acked_at_is i at = mapped_at (acked_after m l) (ack_events p m) i e (place_at e (ack_events p m) i at)

  pub placed_owed : (i : ℕ) → place e (owed_events p m) ≡ Some i → waits_for_phase m (kind_of p e) ≡ true
  placed_owed i at = all_at (λ f. waits_for_phase m (kind_of p f)) (owed_events p m) i e (events_all p (waits_for_phase m)) (place_at e (owed_events p m) i at)

  pub placed_acked : (i : ℕ) → place e (ack_events p m) ≡ Some i → waits_for_end m (kind_of p e) ≡ true
  placed_acked i at = all_at (λ f. waits_for_end m (kind_of p f)) (ack_events p m) i e (events_all p (waits_for_end m)) (place_at e (ack_events p m) i at)

  pub placed_disabled : (d : ℕ) → place e (disabled_events p m) ≡ Some d → may_disable p m e ≡ true
  placed_disabled d at = all_at (may_disable p m) (disabled_events p m) d e (all_filter (may_disable p m) (positions (length p.events))) (place_at e (disabled_events p m) d at)

-- an event after a start by it, and after an end
abbrev event_begun : OwedEvent → OwedEvent
event_begun o = record { moment = o.moment; due = false; running = true; begun = true; left = o.left }

abbrev event_over : OwedEvent → OwedEvent
event_over o = record { moment = o.moment; due = o.due; running = false; begun = o.begun; left = o.left && not o.begun }

-- ---- modes and switches

pub mode_step : (p : Plan) (m : ℕ) (l : Past) (a : Actor) (event : Option ℕ) (port mode : ℕ) → machine_after p m (noting a (deed.Mode port mode) event ∷ l) ≡ machine_after p m l
mode_step p m l a event port mode =
    let n = noting a (deed.Mode port mode) event in
    let none = no_phase m a (deed.Mode port mode) event refl in
    rests p m n l none (drop (closes_of m l) (accepted_switches m l)) (map (owed_after p m l) (owed_events p m)) (map (acked_after m l) (ack_events p m)) (map (dependency_after p l) (disabled_events p m))
    (ap (λ c. drop c (accepted_switches m l)) (closes_stay p m n l none)) (owed_rest p m n l none (λ e waits. record { start = refl; end = refl; run = refl })) (acks_rest p m n l none (λ e waits. refl)) refl

module _ (p : Plan) (object : ℕ) (is : IsMachine p object) (l : Past) (order : InOrder p (machine_of p object) l) (a : Actor) (event : Option ℕ) (mode code : ℕ) where
  abbrev switched : Noted
  switched = noting a (deed.Switch (machine_of p object) mode code) event

  switched_none : phase_of (machine_of p object) switched ≡ None
  switched_none = no_phase (machine_of p object) a (deed.Switch (machine_of p object) mode code) event refl

  queued : (unbegun : List ℕ) → drop (closes_of (machine_of p object) (switched ∷ l)) (accepted_switches (machine_of p object) (switched ∷ l)) ≡ unbegun
      → machine_after p (machine_of p object) (switched ∷ l) ≡ machine_with p (machine_of p object) l unbegun (map (owed_after p (machine_of p object) l) (owed_events p (machine_of p object))) (map (acked_after (machine_of p object) l) (ack_events p (machine_of p object))) (map (dependency_after p l) (disabled_events p (machine_of p object)))
  queued unbegun same = rests p (machine_of p object) switched l switched_none unbegun (map (owed_after p (machine_of p object) l) (owed_events p (machine_of p object))) (map (acked_after (machine_of p object) l) (ack_events p (machine_of p object))) (map (dependency_after p l) (disabled_events p (machine_of p object))) same
      (owed_rest p (machine_of p object) switched l switched_none (λ e waits. record { start = refl; end = refl; run = refl })) (acks_rest p (machine_of p object) switched l switched_none (λ e waits. refl)) refl

  pub switch_step : (code == machines.answer_to_switch (machine_after p (machine_of p object) l)) ≡ true → machine_after p (machine_of p object) (switched ∷ l) ≡ machines.after_switch mode (machine_after p (machine_of p object) l)
  switch_step answer = by_place (machines.has_place (machine_after p (machine_of p object) l)) refl
    where
      code_is : code ≡ machines.answer_to_switch (machine_after p (machine_of p object) l)
      code_is = eqb-true code (machines.answer_to_switch (machine_after p (machine_of p object) l)) answer

      by_place : (b : Bool) → machines.has_place (machine_after p (machine_of p object) l) ≡ b → machine_after p (machine_of p object) (switched ∷ l) ≡ machines.after_switch mode (machine_after p (machine_of p object) l)
      by_place true room =
          let zero : (code == 0) ≡ true = ap (λ c. c == 0) (code_is ∙ ap (λ b. if b then 0 else 130) room) in
          queued (drop (closes_of (machine_of p object) l) (accepted_switches (machine_of p object) l) ++ mode ∷ []) ((λ i. drop (closes_stay p (machine_of p object) switched l switched_none i) (accepted_is p object is a mode code event l true zero i)) ∙ drop-append-le (closes_of (machine_of p object) l) (accepted_switches (machine_of p object) l) (mode ∷ []) order.begun)
          ∙ ap (λ b. if b then machines.with_unbegun (drop (closes_of (machine_of p object) l) (accepted_switches (machine_of p object) l) ++ mode ∷ []) (machine_after p (machine_of p object) l) else machine_after p (machine_of p object) l) (sym room)
      by_place false full =
          let other : (code == 0) ≡ false = ap (λ c. c == 0) (code_is ∙ ap (λ b. if b then 0 else 130) full) in
          queued (drop (closes_of (machine_of p object) l) (accepted_switches (machine_of p object) l)) (λ i. drop (closes_stay p (machine_of p object) switched l switched_none i) (accepted_is p object is a mode code event l false other i))
          ∙ ap (λ b. if b then machines.with_unbegun (drop (closes_of (machine_of p object) l) (accepted_switches (machine_of p object) l) ++ mode ∷ []) (machine_after p (machine_of p object) l) else machine_after p (machine_of p object) l) (sym full)

-- ---- starts

module _ (p : Plan) (m : ℕ) (l : Past) (a : Actor) (event : Option ℕ) (e : ℕ) (point : Option ℕ) (value : Value) where
  abbrev started : Noted
  started = noting a (deed.Start e point value) event

  start_none : phase_of m started ≡ None
  start_none = no_phase m a (deed.Start e point value) event refl

  no_start : (f : ℕ) → (f == e) ≡ false → IsQuiet f started
  no_start f off = record { start = off; end = refl; run = ap (λ b. if b then Some true else None) off }

  start_stays : drop (closes_of m (started ∷ l)) (accepted_switches m (started ∷ l)) ≡ drop (closes_of m l) (accepted_switches m l)
  start_stays = ap (λ c. drop c (accepted_switches m l)) (closes_stay p m started l start_none)

  -- a SwcModeSwitchEvent
  pub owed_start_step : (i : ℕ) → place e (owed_events p m) ≡ Some i → owed.may_start (machines.owed_at i (machine_after p m l)) ≡ true
      → machine_after p m (started ∷ l) ≡ machines.after_owed i owed.after_owed_start (machine_after p m l)
  owed_start_step i at may =
      rests p m started l start_none (drop (closes_of m l) (accepted_switches m l)) (set (map (owed_after p m l) (owed_events p m)) i (owed.after_owed_start (machines.owed_at i (machine_after p m l)))) (map (acked_after m l) (ack_events p m))
      (map (dependency_after p l) (disabled_events p m)) start_stays (owed_changed p m started l start_none e i (owed.after_owed_start (machines.owed_at i (machine_after p m l))) at here (λ f off. no_start f (other_way e f off)))
      (acks_rest p m started l start_none (λ f waits. differ (λ z. waits_for_end m (kind_of p z)) f e waits (owed_no_ack m (kind_of p e) (placed_owed p m l e i at)))) refl
    where
      own : (e == e) ≡ true
      own = eq-eqb e e refl

      is_at : machines.owed_at i (machine_after p m l) ≡ owed_after p m l e
      is_at = owed_at_is p m l e i at

      here : owed_after p m (started ∷ l) e ≡ owed.after_owed_start (machines.owed_at i (machine_after p m l))
      here =
          owed_started p m started l start_none e own refl (ap (λ b. if b then Some true else None) own)
          ∙ sym (ap event_begun is_at)
          ∙ ap (λ b. if b then event_begun (machines.owed_at i (machine_after p m l)) else machines.owed_at i (machine_after p m l)) (sym may)

  -- a ModeSwitchedAckEvent
  pub acked_start_step : (i : ℕ) → place e (ack_events p m) ≡ Some i → machine_after p m (started ∷ l) ≡ machines.with_acks (set (machine_after p m l).acks i false) (machine_after p m l)
  acked_start_step i at =
      rests p m started l start_none (drop (closes_of m l) (accepted_switches m l)) (map (owed_after p m l) (owed_events p m)) (set (map (acked_after m l) (ack_events p m)) i false) (map (dependency_after p l) (disabled_events p m)) start_stays
      (owed_rest p m started l start_none (λ f waits. no_start f (differ (λ z. waits_for_phase m (kind_of p z)) f e waits (ack_not_owed m (kind_of p e) (placed_acked p m l e i at)))))
      (sym (set_all (λ f. waits_for_end m (kind_of p f)) (acked_after m l) (acked_after m (started ∷ l)) false e (ack_events p m) i (events_all p (waits_for_end m)) (events_once p (waits_for_end m)) at
      (acked_next p m started l start_none e ∙ ap (λ b. not b && acked_after m l e) (eq-eqb e e refl))
      (λ f waits off. sym (acked_next p m started l start_none f ∙ ap (λ b. not b && acked_after m l f) (other_way e f off)))))
      refl

-- ---- admissions and ends

module _ (p : Plan) (object : ℕ) (is : IsMachine p object) (l : Past) (a : Actor) (e : ℕ) where
  abbrev m : ℕ
  m = machine_of p object

  abbrev admitted : Bool → Noted
  admitted answer = noting a (deed.Admit answer) (Some e)

  abbrev ended : Noted
  ended = noting a deed.End (Some e)

  admitted_none : (answer : Bool) → phase_of m (admitted answer) ≡ None
  admitted_none answer = no_phase m a (deed.Admit answer) (Some e) refl

  ended_none : phase_of m ended ≡ None
  ended_none = no_phase m a deed.End (Some e) refl

  dropped_step : machine_after p m (admitted false ∷ l) ≡ machine_after p m l
  dropped_step =
      rests p m (admitted false) l (admitted_none false) (drop (closes_of m l) (accepted_switches m l)) (map (owed_after p m l) (owed_events p m)) (map (acked_after m l) (ack_events p m)) (map (dependency_after p l) (disabled_events p m))
      (ap (λ c. drop c (accepted_switches m l)) (closes_stay p m (admitted false) l (admitted_none false))) (owed_rest p m (admitted false) l (admitted_none false) (λ f waits. record { start = refl; end = refl; run = refl }))
      (acks_rest p m (admitted false) l (admitted_none false) (λ f waits. refl)) refl

  let_in_step : starts_elsewhere p object e ≡ true → (d : ℕ) → place e (disabled_events p m) ≡ Some d → machine_after p m (admitted true ∷ l) ≡ machines.with_admitted d true (machine_after p m l)
  let_in_step elsewhere d at =
      rests p m (admitted true) l (admitted_none true) (drop (closes_of m l) (accepted_switches m l)) (map (owed_after p m l) (owed_events p m)) (map (acked_after m l) (ack_events p m))
      (set (map (dependency_after p l) (disabled_events p m)) d (record { modes = (machines.dependency_at d (machine_after p m l)).modes; admitted = true }))
      (ap (λ c. drop c (accepted_switches m l)) (closes_stay p m (admitted true) l (admitted_none true)))
      (owed_rest p m (admitted true) l (admitted_none true) (λ f waits. record { start = refl; end = refl; run = ap (λ b. if b then Some true else None) (differ (starts_elsewhere p object) e f elsewhere (owed_here p object is f waits)) }))
      (acks_rest p m (admitted true) l (admitted_none true) (λ f waits. refl))
      (dependencies_changed p m (admitted true) l (admitted_none true) e d (record { modes = (machines.dependency_at d (machine_after p m l)).modes; admitted = true }) at
      (λ i. record { modes = (sym (dependency_at_is p m l e d at) i).modes; admitted = runs i }) (λ f off. λ i. record { modes = disabling_modes p f; admitted = others f off i }))
    where
      runs : admitted_runs e (admitted true ∷ l) ≡ true
      runs = let own : (e == e) ≡ true = eq-eqb e e refl in rw own refl

      others : (f : ℕ) → (e == f) ≡ false → admitted_runs f l ≡ admitted_runs f (admitted true ∷ l)
      others f off = rw off refl

  pub admit_step : (answer : Bool) (d : ℕ) → starts_elsewhere p object e ≡ true → place e (disabled_events p m) ≡ Some d → is_answered answer (machines.answer_to_admit d (machine_after p m l)) ≡ true
      → machine_after p m (admitted answer ∷ l) ≡ machines.after_admit d (machine_after p m l)
  admit_step answer d elsewhere at answered = by_answer answer (machines.answer_to_admit d (machine_after p m l)) answered
    where
      by_answer : (b : Bool) (o : Admitted) → is_answered b o ≡ true → machine_after p m (admitted b ∷ l) ≡ machines.admitted_by o d (machine_after p m l)
      by_answer true Yes holds = let_in_step elsewhere d at
      by_answer false Yes holds = absurd (false≢true holds)
      by_answer true No holds = absurd (false≢true holds)
      by_answer false No holds = dropped_step
      by_answer b Runs holds = absurd (false≢true holds)

  ended_stays : drop (closes_of m (ended ∷ l)) (accepted_switches m (ended ∷ l)) ≡ drop (closes_of m l) (accepted_switches m l)
  ended_stays = ap (λ c. drop c (accepted_switches m l)) (closes_stay p m ended l ended_none)

  no_end : (f : ℕ) → (e == f) ≡ false → IsQuiet f ended
  no_end f off = record { start = refl; end = off; run = ap (λ b. if b then Some false else None) off }

  -- by a SwcModeSwitchEvent
  pub owed_end_step : (i : ℕ) → place e (owed_events p m) ≡ Some i → (machines.owed_at i (machine_after p m l)).running ≡ true → machine_after p m (ended ∷ l) ≡ machines.after_owed i owed.after_end (machine_after p m l)
  owed_end_step i at running =
      rests p m ended l ended_none (drop (closes_of m l) (accepted_switches m l)) (set (map (owed_after p m l) (owed_events p m)) i (owed.after_end (machines.owed_at i (machine_after p m l)))) (map (acked_after m l) (ack_events p m))
      (map (dependency_after p l) (disabled_events p m)) ended_stays (owed_changed p m ended l ended_none e i (owed.after_end (machines.owed_at i (machine_after p m l))) at here no_end) (acks_rest p m ended l ended_none (λ f waits. refl))
      (map_all (starts_elsewhere p object) (dependency_after p (ended ∷ l)) (dependency_after p l) (disabled_events p m) is.apart (λ f elsewhere. λ j. record { modes = disabling_modes p f; admitted = others f elsewhere j }))
    where
      own : (e == e) ≡ true
      own = eq-eqb e e refl

      others : (f : ℕ) → starts_elsewhere p object f ≡ true → admitted_runs f (ended ∷ l) ≡ admitted_runs f l
      others f elsewhere = let off : (e == f) ≡ false = other_way f e (differ (starts_elsewhere p object) f e elsewhere (owed_here p object is e (placed_owed p m l e i at))) in rw off refl

      -- what was started since the phase is done now
      left_is : (owes done begun : Bool) → (done ≡ true → begun ≡ true) → (owes && not begun) ≡ ((owes && not done) && not begun)
      left_is false done begun both = refl
      left_is true false begun both = refl
      left_is true true true both = refl
      left_is true true false both = absurd (false≢true (both refl))

      here : owed_after p m (ended ∷ l) e ≡ owed.after_end (machines.owed_at i (machine_after p m l))
      here =
          owed_ended p m ended l ended_none e refl own (ap (λ b. if b then Some false else None) own)
          ∙ (λ j. record {
            moment = moment_at p e;
            due = (owed_after p m l e).due;
            running = false;
            begun = (owed_after p m l e).begun;
            left = left_is (owes_moment p m l (moment_in (kind_of p e))) (is_done m e l) (started_in_phase m e l) (done_begun m e l) j;
          })
          ∙ sym (ap event_over (owed_at_is p m l e i at))
          ∙ ap (λ b. if b then event_over (machines.owed_at i (machine_after p m l)) else machines.owed_at i (machine_after p m l)) (sym running)

  -- by an event that the machine disables
  pub disabled_end_step : (d : ℕ) → starts_elsewhere p object e ≡ true → place e (disabled_events p m) ≡ Some d → (machines.dependency_at d (machine_after p m l)).admitted ≡ true
      → machine_after p m (ended ∷ l) ≡ machines.after_end_admitted d (machine_after p m l)
  disabled_end_step d elsewhere at runs =
      rests p m ended l ended_none (drop (closes_of m l) (accepted_switches m l)) (map (owed_after p m l) (owed_events p m)) (map (acked_after m l) (ack_events p m))
      (set (map (dependency_after p l) (disabled_events p m)) d (record { modes = (machines.dependency_at d (machine_after p m l)).modes; admitted = false })) ended_stays
      (owed_rest p m ended l ended_none (λ f waits. no_end f (differ (starts_elsewhere p object) e f elsewhere (owed_here p object is f waits)))) (acks_rest p m ended l ended_none (λ f waits. refl))
      (dependencies_changed p m ended l ended_none e d (record { modes = (machines.dependency_at d (machine_after p m l)).modes; admitted = false }) at
      (λ i. record { modes = (sym (dependency_at_is p m l e d at) i).modes; admitted = over i }) (λ f off. λ i. record { modes = disabling_modes p f; admitted = others f off i }))
      ∙ ap (λ b. if b then machines.with_admitted d false (machine_after p m l) else machine_after p m l) (sym runs)
    where
      over : admitted_runs e (ended ∷ l) ≡ false
      over = let own : (e == e) ≡ true = eq-eqb e e refl in rw own refl

      others : (f : ℕ) → (e == f) ≡ false → admitted_runs f l ≡ admitted_runs f (ended ∷ l)
      others f off = rw off refl

-- ---- phases

module _ (p : Plan) (m : ℕ) (l : Past) (event : Option ℕ) (s : Step) where
  abbrev moved : Noted
  moved = noting (Machine m) (deed.Phase s) event

  phase : phase_of m moved ≡ Some s
  phase = ap (λ b. if b then Some s else None) (eq-eqb m m refl)

  begun : (t : Step) → drop (if is_close (Some t) then suc (closes_of m l) else closes_of m l) (accepted_switches m l) ≡ machines.unbegun_after t (machine_after p m l)
  begun (step.Close mode) = one_less (closes_of m l) (accepted_switches m l)
  begun step.Exit = refl
  begun step.Transition = refl
  begun step.Entry = refl
  begun step.Stable = refl

  acked : (b w : Bool) → machines.is_stable s ≡ b → list_any (λ k. is_stable_phase (phase_of m k)) l ≡ w
      → map (acked_after m (moved ∷ l)) (ack_events p m) ≡ (if b then (if w then replicate (length (map (acked_after m l) (ack_events p m))) true else map (acked_after m l) (ack_events p m)) else map (acked_after m l) (ack_events p m))
  acked true true stable was = sym (filled_all (λ e. waits_for_end m (kind_of p e)) (acked_after m l) (acked_after m (moved ∷ l)) true (ack_events p m) (events_all p (waits_for_end m))
      (λ e waits. acked_phase p m s moved l phase e refl ∙ (λ i. (stable i && was i) || acked_after m l e)))
  acked true false stable was = map_all (λ e. waits_for_end m (kind_of p e)) (acked_after m (moved ∷ l)) (acked_after m l) (ack_events p m) (events_all p (waits_for_end m))
      (λ e waits. acked_phase p m s moved l phase e refl ∙ (λ i. (stable i && was i) || acked_after m l e))
  acked false w stable was = map_all (λ e. waits_for_end m (kind_of p e)) (acked_after m (moved ∷ l)) (acked_after m l) (ack_events p m) (events_all p (waits_for_end m))
      (λ e waits. acked_phase p m s moved l phase e refl ∙ (λ i. (stable i && was i) || acked_after m l e))

  pub phase_step : machine_after p m (moved ∷ l) ≡ machines.after_step s (machine_after p m l)
  phase_step = λ i. record {
    modes = modes_of p m;
    queue = places_of p m;
    waits = waits_of p m;
    stage = stage_is p m s moved l phase i;
    settled = settled_is p m s moved l phase i;
    next = next_is p m s moved l phase i;
    was_stable = stable_is p m s moved l phase i;
    unbegun = (ap (λ c. drop c (accepted_switches m l)) (closes_is p m s moved l phase) ∙ begun s) i;
    owed = mapped_through (owed_after p m l) (owed_after p m (moved ∷ l)) (owed.owed_by s (settled_of p m l) (machines.next_after s (machine_after p m l))) (owed_events p m) (λ e. owed_phase p m s moved l phase e refl refl) i;
    acks = acked (machines.is_stable s) (list_any (λ k. is_stable_phase (phase_of m k)) l) refl refl i;
    disablings = map (dependency_after p l) (disabled_events p m);
  }
