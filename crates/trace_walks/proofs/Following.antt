-- What the walks answer is the actor rule, after the histories for which they stand.
use Rattle.std.proofs.Common.{◌≡◌, ℕ, ◌<◌, Bool, true, false, ◌&&◌, not, if◌then◌else◌, refl, sym, ◌∙◌, ap, subst, arith, length, List, [], ◌∷◌, Option, Some, None}
use Rattle.std.specs.Prelude.{nat_lt, unwrap_or, option_and_then}
use Rattle.bus_semantics.specs.Common.{slice_get, list_any, option_or, and_parts, ltb-true, false≢true, slice_get_within, slice_get-get_or, ActKey, Value, words_of, same_number, Plan}
use Rattle.bus_semantics.specs.Common.{Runnable, caller_of, runnable_of_event, Wanted, wanted_by, next_of_activity, History, is_of, is_over, event_started, needs_event, note, runs}
use Rattle.bus_semantics.specs.Common.{last_started, served_by, key_fits, fits, Activation, with_deed, activation_of, wanted_in, next_wish, asked_last, is_this, is_wanted_next, is_held_back}
use Rattle.bus_semantics.specs.Common.{caller_has_asked, may_start, starts_or_goes_on, follows_program, plain_key}
use Rattle.bus_laws.specs.Common.{PointPlan, Act, Deed, Entry}
use Rattle.bus_semantics.specs.declared.entries.Deed.TheVariants as deed
use Rattle.history_laws.specs.LookUps.{looked}
use Rattle.history_laws.proofs.Keys.{fit_key}
use Rattle.history_laws.proofs.Lists.{there_is}
use Rattle.task_machine.specs.declared.instr.TaskSet.{TaskSet}
use Rattle.task_machine.specs.Frames.{Stands, asks}
use Rattle.task_generator.specs.Promise.{AsksAsPlanned}
use Rattle.trace_walks.specs.declared.walk.Running.{Running}
use Rattle.trace_walks.specs.declared.walk.Walk.{Walk}
use Rattle.trace_walks.specs.declared.walks.Walks.{Walks}
use Rattle.trace_walks.specs.Walking.{entry_of, event_of, goes, IsRunning, IsWanted, RunningStands, WalkStands}
use Rattle.trace_walks.specs.Standing.{WalksStand, asked_by, is_called, may_begin, walk_of}

-- ---- the current activation has the event of the last start

pub last_event : (k : ActKey) (h : History) (a : Activation) → activation_of k h ≡ Some a → last_started k h ≡ Some a.event
last_event k [] a e = absurd (cc e)
last_event k (n ∷ h) a e = of_maker (is_of k n) refl e (λ b f. last_event k h b f)
  where
    of_deed : (d : Deed) (o : Option Activation) → activation_of k h ≡ o → with_deed d o ≡ Some a → ((b : Activation) → activation_of k h ≡ Some b → last_started k h ≡ Some b.event)
        → option_or (event_started d) (last_started k h) ≡ Some a.event
    of_deed (deed.Start event point value) o is f before = let same : record { event = event; start = words_of value; deeds = [] } ≡ a = cc f in ap (λ (b : Activation). Some b.event) same
    of_deed d None is f before = absurd (cc f)
    of_deed d (Some b) is f before = let same : b.event ≡ a.event = ap (λ (o : Option Activation). unwrap_or (option_and_then (λ (x : Activation). Some x.event) o) 0) f in before b is ∙ ap (λ n. Some n) same

    of_maker : (b : Bool) → is_of k n ≡ b → (if b then with_deed n.deed (activation_of k h) else activation_of k h) ≡ Some a → ((b : Activation) → activation_of k h ≡ Some b → last_started k h ≡ Some b.event)
        → option_or (if b then event_started n.deed else None) (last_started k h) ≡ Some a.event
    of_maker true is f before = of_deed n.deed (activation_of k h) refl f before
    of_maker false is f before = before a f

-- ---- what an activation asks is what the actor rule wants

asks_ruled : (t : TaskSet) (p : Plan) (k : ActKey) (a : Activation) (point : Option ℕ) (value : Value) → AsksAsPlanned p t → key_fits p k ≡ true → list_any is_over a.deeds ≡ false → words_of value ≡ a.start
    → asks t k (deed.Start a.event point value) a.deeds ≡ wanted_in p k a
asks_ruled t p k a point value bodies fit goes words =
    let within : k.runnable < length p.runnables = ltb-true k.runnable (length p.runnables) (and_parts (nat_lt k.runnable (length p.runnables)) _ fit).0 in
    let r = there_is p.runnables k.runnable within in
    bodies k r.0 a.event point value a.deeds r.1
    ∙ ap (λ b. if b then None else next_of_activity p r.0 a.event (words_of value) a.deeds) goes
    ∙ ap (λ ws. next_of_activity p r.0 a.event ws a.deeds) words
    ∙ sym (looked p.runnables k.runnable r.0 (λ (x : Runnable). next_of_activity p x a.event a.start a.deeds) None r.1)

-- what does not start goes on
pub goes_as : (p : Plan) (h : History) (k : ActKey) (d : Deed) → ((event : ℕ) (point : Option ℕ) (value : Value) → d ≡ deed.Start event point value → ⊥) → {b : Bool} → b ≡ is_wanted_next p h k d → b ≡ starts_or_goes_on p h k d
goes_as p h k (deed.Start event point value) other is = absurd (other event point value refl)
goes_as p h k d other is = is

-- ---- one key

module _ (t : TaskSet) (p : Plan) (k : ActKey) (h : History) (w : Walk) (stands : WalkStands t p k h w) where
  pub runs_is : goes w ≡ runs k h
  runs_is = by_running w.running refl stands.running
    where
      by_running : (o : Option Running) → w.running ≡ o → RunningStands t k h o → goes w ≡ runs k h
      by_running None is none = rw is (sym none)
      by_running (Some r) is of = rw is (sym of.going)

  -- none runs, so none wants anything
  pub wants_none : (d : Deed) → w.running ≡ None → false ≡ is_wanted_next p h k d
  wants_none d is = let none : runs k h ≡ false = subst (RunningStands t k h) is stands.running in rw none refl

  module _ (bodies : AsksAsPlanned p t) (fit : key_fits p k ≡ true) (r : Running) (is : w.running ≡ Some r)
      (next : Option Wanted) (asked : (j : ActKey) (start : Deed) (answers : List Deed) → Stands t j start answers r.frame → next ≡ asks t j start answers) where
    of : IsRunning t k h r
    of = subst (RunningStands t k h) is stands.running

    next_is : next ≡ next_wish p h k
    next_is =
        let a = of.activation in
        let ruled : next_wish p h k ≡ wanted_in p k a = rw (of.going, of.current) refl in
        asked k (deed.Start a.event of.point of.value) a.deeds of.stands ∙ asks_ruled t p k a of.point of.value bodies fit of.goes_on of.words ∙ sym ruled

    pub wants_this : (d : Deed) → is_this (wanted_by r.event d) next ≡ is_wanted_next p h k d
    wants_this d =
        let event : unwrap_or (last_started k h) 0 ≡ r.event = ap (λ (o : Option ℕ). unwrap_or o 0) (last_event k h of.activation of.current) ∙ sym of.event_is in
        λ i. is_this (wanted_by (sym event i) d) (next_is i)

    pub wanted_so : (v : Wanted) → next ≡ Some v → w.held ≡ false → IsWanted p h k v
    wanted_so v some free = record { next = sym next_is ∙ some; free = sym stands.held ∙ free }

module _ (t : TaskSet) (p : Plan) (h : History) (ws : Walks) (stands : WalksStand t p h ws) where
  asked_is : (r : ℕ) → asked_by ws r ≡ asked_last (plain_key r) h
  asked_is r = by_walk (slice_get ws.plain.items r) refl
    where
      by_walk : (o : Option Walk) → slice_get ws.plain.items r ≡ o → asked_by ws r ≡ asked_last (plain_key r) h
      by_walk None is = rw is (sym (stands.outside r is))
      by_walk (Some w) is = let walk = stands.plain r w is in rw is walk.asked

  called_is : (k : ActKey) → is_called p ws k ≡ caller_has_asked p h k
  called_is k = by_point k.point refl
    where
      by_caller : (q : ℕ) → k.point ≡ Some q → (o : Option ℕ) → caller_of p q ≡ o → is_called p ws k ≡ caller_has_asked p h k
      by_caller q at None is = rw (at, is) refl
      by_caller q at (Some r) is = rw (at, is) (ap (λ o. same_number o (Some q)) (asked_is r))

      by_point : (o : Option ℕ) → k.point ≡ o → is_called p ws k ≡ caller_has_asked p h k
      by_point None at = rw at refl
      by_point (Some q) at = by_caller q at (caller_of p q) refl

  -- the walk of a key that fits
  pub walk_stands : (k : ActKey) (w : Walk) → key_fits p k ≡ true → walk_of ws k ≡ Some w → WalkStands t p k h w
  walk_stands k w fit is = by_point k.point refl
    where
      by_point : (o : Option ℕ) → k.point ≡ o → WalkStands t p k h w
      by_point None at =
          let same : plain_key k.runnable ≡ k = sym (λ i. record { runnable = k.runnable; point = at i }) in
          subst (λ (j : ActKey). WalkStands t p j h w) same (stands.plain k.runnable w (rw at at is))
      by_point (Some q) at = stands.direct k q w at fit (rw at at is)

  pub begins_is : (k : ActKey) (w : Walk) (event : ℕ) → key_fits p k ≡ true → walk_of ws k ≡ Some w → may_begin p ws k w event ≡ may_start p h k event
  begins_is k w event fit is =
      let running = runs_is t p k h w (walk_stands k w fit is) in
      λ i. (same_number (runnable_of_event p event) (Some k.runnable) && not (running i)) && called_is k i

  pub held_is : (k : ActKey) (w : Walk) → key_fits p k ≡ true → walk_of ws k ≡ Some w → w.held ≡ is_held_back p h k
  held_is k w fit is = let walk = walk_stands k w fit is in walk.held

  -- the actor rule, for an entry of a key
  follows_is : (e : Entry) (k : ActKey) (w : Walk) → e.actor ≡ Act k → key_fits p k ≡ true → walk_of ws k ≡ Some w → follows_program p h e.actor e.deed ≡ (starts_or_goes_on p h k e.deed && not w.held)
  follows_is e k w actor fit is = let held = held_is k w fit is in ap (λ a. follows_program p h a e.deed) actor ∙ sym (λ i. starts_or_goes_on p h k e.deed && not (held i))

  pub follows_free : (e : Entry) (k : ActKey) (w : Walk) → e.actor ≡ Act k → key_fits p k ≡ true → walk_of ws k ≡ Some w → not w.held ≡ true → starts_or_goes_on p h k e.deed ≡ follows_program p h e.actor e.deed
  follows_free e k w actor fit is free = sym (follows_is e k w actor fit is ∙ ap (λ b. starts_or_goes_on p h k e.deed && b) free ∙ and_true (starts_or_goes_on p h k e.deed))
    where
      and_true : (b : Bool) → (b && true) ≡ b
      and_true true = refl
      and_true false = refl

  pub follows_held : (e : Entry) (k : ActKey) (w : Walk) → e.actor ≡ Act k → key_fits p k ≡ true → walk_of ws k ≡ Some w → not w.held ≡ false → false ≡ follows_program p h e.actor e.deed
  follows_held e k w actor fit is held = sym (follows_is e k w actor fit is ∙ ap (λ b. starts_or_goes_on p h k e.deed && b) held ∙ and_false (starts_or_goes_on p h k e.deed))
    where
      and_false : (b : Bool) → (b && false) ≡ false
      and_false true = refl
      and_false false = refl

  -- ---- a key that fits has a walk

  pub no_walk : {X : Type 0} (k : ActKey) → key_fits p k ≡ true → walk_of ws k ≡ None → X
  no_walk k fit is = by_point k.point refl
    where
      none_there : {X Y : Type 0} (xs : List Y) (n m : ℕ) → length xs ≡ m → n < m → slice_get xs n ≡ None → X
      none_there [] n m long less none = absurd (omega (arith, long, less))
      none_there (x ∷ xs) n m long less none = absurd (cc (sym none ∙ slice_get-get_or (x ∷ xs) n x (omega (arith, long, less))))

      by_place : {X : Type 0} (q : ℕ) → k.point ≡ Some q → (o : Option PointPlan) → slice_get p.points q ≡ o → X
      by_place q at (Some t) there = none_there ws.direct.items q (length p.points) stands.points (slice_get_within p.points q t there) (rw at at is)
      by_place q at None there = by_server (served_by p (Act k)) refl
        where
          by_server : {X : Type 0} (o : Option ℕ) → served_by p (Act k) ≡ o → X
          by_server None served = let point = (and_parts (nat_lt k.runnable (length p.runnables)) _ fit).1 in absurd (false≢true (rw (at, served) at point))
          by_server (Some s) served = let point = (and_parts (nat_lt k.runnable (length p.runnables)) _ fit).1 in absurd (false≢true (and_parts _ false (rw (at, served, there) at point)).1)

      by_point : {X : Type 0} (o : Option ℕ) → k.point ≡ o → X
      by_point None at =
          let within = ltb-true k.runnable (length p.runnables) (and_parts (nat_lt k.runnable (length p.runnables)) _ fit).0 in
          none_there ws.plain.items k.runnable (length p.runnables) stands.runnables within (rw at at is)
      by_point (Some q) at = by_place q at (slice_get p.points q) refl

-- ---- the key of an entry that fits

pub key_of_entry : (p : Plan) (k : ActKey) (e : Entry) → e.actor ≡ Act k → fits p e ≡ true → key_fits p k ≡ true
key_of_entry p k e actor fit =
    let same : e ≡ entry_of k e.deed = λ i. record { actor = actor i; deed = e.deed } in
    fit_key p k e.deed (subst (λ x. fits p x ≡ true) same fit)

-- ---- the event of a running activation

pub event_is : (t : TaskSet) (p : Plan) (h : History) (ws : Walks) (stands : WalksStand t p h ws) (e : Entry) (k : ActKey) (w : Walk) → e.actor ≡ Act k → fits p e ≡ true → walk_of ws k ≡ Some w → needs_event e.deed ≡ true → runs k h ≡ true
    → event_of w ≡ (note h e).event
event_is t p h ws stands e k w actor fit is needs running = by_running w.running refl walk.running
  where
    walk : WalkStands t p k h w
    walk = walk_stands t p h ws stands k w (key_of_entry p k e actor fit) is

    by_running : (o : Option Running) → w.running ≡ o → RunningStands t k h o → event_of w ≡ (note h e).event
    by_running None at none = absurd (false≢true (sym none ∙ running))
    by_running (Some r) at of = rw (at, needs, actor) (ap (λ n. Some n) of.event_is ∙ sym (last_event k h of.activation of.current))
