-- What is tried where no activation runs, and that it is all that counts for rest.
use Rattle.std.proofs.Common.{◌≡◌, ℕ, Bool, true, false, ◌&&◌, not, if◌then◌else◌, refl, sym, ◌∙◌, ap, subst, List, [], ◌∷◌, ◌++◌, map, length, Option, Some, None}
use Rattle.std.specs.Prelude.{is_none, nat_lt, option_and_then, unwrap_or}
use Rattle.bus_semantics.specs.Common.{list_any, and_parts, and_from, eq-eqb, false≢true, lt-ltb, slice_get_within, ActKey, same_number, Plan, positions, kind_of, instance_of, server_of}
use Rattle.bus_semantics.specs.Common.{caller_of, runnable_of_event, Wanted, to_start, to_move_on, wanted_by, History, Noted, needs_event, note, noted, runs, object_of, touched_by, touches}
use Rattle.bus_semantics.specs.Common.{touched, entries_of, key_fits, event_fits, wish_fits, activation_of, wanted_in, next_wish, asked_last, is_held_back, may_start, follows_program}
use Rattle.bus_semantics.specs.Common.{is_due, IsLegal, MayFollow, Follows, IsPastOf, event_of, noted_for, MayCome, NoneMayCome, IsSound, Try, plain_key, option_list, gathered, keys_of}
use Rattle.bus_semantics.specs.Common.{direct_try, machine_tries, event_runs, is_free, task_tries, tries, IsStuck, AllStuck, IsAtRest}
use Rattle.bus_laws.specs.Common.{Returns, EventPlan, Actor, Env, Machine, Act, Deed, Entry, Mapping, Task}
use Rattle.bus_semantics.specs.declared.entries.Deed.TheVariants as deed
use Rattle.bus_laws.proofs.Thinning.{option_test, sought_where}
use Rattle.history_laws.specs.Running.{GoesOn}
use Rattle.no_stall.proofs.Lists.{all_at}
use Rattle.no_stall.proofs.Keys.{key_among}
use Rattle.no_stall.proofs.Starting.{resting_asked}
use Rattle.port_objects.specs.declared.object.Object.{Object}
use Rattle.trace_objects.specs.Resting.{begins, Begins, Comes, IsPaused, Starts, starts_of}
use Rattle.trace_objects.proofs.Alone.{returned_alone, machine_has}
use Rattle.trace_objects.proofs.Broken.{due_by}
use Rattle.trace_objects.proofs.Parted.{parted}
use Rattle.trace_objects.proofs.Stuck.{both}
use Rattle.trace_objects.proofs.Tried.{free_same}

-- ---- one that is tried

-- a start and a phase name no event that started an activation
free : (w : Wanted) → begins w ≡ true → (d : Deed) (by : ℕ) → wanted_by by d ≡ w → needs_event d ≡ false
free w kind (deed.Admit said) by is = absurd (false≢true (subst (λ v. begins v ≡ true) (sym is) kind))
free w kind deed.End by is = absurd (false≢true (subst (λ v. begins v ≡ true) (sym is) kind))
free w kind d by is = refl

abbrev pub EntryLaw : Plan → Mapping → History → Type 0
EntryLaw p m h = (a : Actor) (w : Wanted) (n : Noted) → needs_event n.entry.deed ≡ false → follows_program p h a n.entry.deed ≡ true → MayCome p a w (entries_of p h (touched p a w)) n → MayFollow p h n.entry

module _ (p : Plan) (m : Mapping) (h : History) (legal : IsLegal p h) (a : Actor) (w : Wanted) (begun : Begins p h a w) where
  -- what may come may follow
  pub may_follow : EntryLaw p m h → (e : Entry) → MayCome p a w (entries_of p h (touched p a w)) (noted_for w e) → IsStuck p h (a, w) → ⊥
  may_follow law e comes stuck =
      let by = unwrap_or (event_of w) 0 in
      let plain = free w begun.kind e.deed by comes.wish in
      let program = begun.program e.deed (free_same e.deed 0 by plain ∙ comes.wish) in
      let wish : wanted_by (unwrap_or (note h e).event 0) e.deed ≡ w = free_same e.deed (unwrap_or (note h e).event 0) by plain ∙ comes.wish in
      stuck e (λ i. (comes.actor i, wish i)) (law a w (noted_for w e) plain program comes)

  -- where none may come on its object, none may follow
  pub stuck_there : (object : ℕ) → Some object ≡ object_of p a w → ((e : Entry) → IsLegal p (e ∷ h) → IsPastOf p object (entries_of p (e ∷ h) object)) → NoneMayCome p a w (entries_of p h object) → IsStuck p h (a, w)
  stuck_there object touching parts none e is may =
      let actor : e.actor ≡ a = ap (λ (t : Try). t.0) is in
      let wish : wanted_by (unwrap_or (note h e).event 0) e.deed ≡ w = ap (λ (t : Try). t.1) is in
      let plain = free w begun.kind e.deed (unwrap_or (note h e).event 0) wish in
      let touched_it : touched_by p (note h e) ≡ Some object =
      ap (λ b. if b && is_none (note h e).event then None else object_of p e.actor (wanted_by (unwrap_or (note h e).event 0) e.deed)) plain ∙ (λ i. object_of p (actor i) (wish i)) ∙ sym touching in
      let touching_it : touches p object (note h e) ≡ true = ap (λ o. same_number o (Some object)) touched_it ∙ eq-eqb object object refl in
      let past : IsPastOf p object (note h e ∷ entries_of p h object) = subst (IsPastOf p object) (parted p h e object true touching_it) (parts e (legal, may)) in
      let number : touched p a w ≡ object = ap (λ o. unwrap_or o 0) (sym touching) in
      none (note h e) (record { actor = actor; wish = wish; follows = subst (λ n. Follows p n (entries_of p h object) (note h e)) (sym number) past.1 })

-- what has no object is never due
pub stuck_alone : (p : Plan) (m : Mapping) (h : History) (sound : IsSound p m) → ((b : Actor) (event point : ℕ) → kind_of p event ≡ Returns point → server_of p point ≡ None → is_due p b event (noted h) ≡ false)
    → (a : Actor) (w : Wanted) → begins w ≡ true → wish_fits p a w ≡ true → object_of p a w ≡ None → IsStuck p h (a, w)
stuck_alone p m h sound unjoined a (to_start v) kind fit none e is may =
    let u = returned_alone p m sound v none in
    let due = due_by p (unwrap_or (note h e).event 0) v e.actor (noted h) e.deed (ap (λ (t : Try). t.1) is) may.answers.due in
    false≢true (sym (unjoined e.actor v u.point u.kind u.unjoined) ∙ due)
stuck_alone p m h sound unjoined Env to_move_on kind fit none e is may = false≢true fit
stuck_alone p m h sound unjoined (Machine n) to_move_on kind fit none e is may = machine_has p n to_move_on fit none
stuck_alone p m h sound unjoined (Act k) to_move_on kind fit none e is may = false≢true (and_parts (key_fits p k) false fit).1
stuck_alone p m h sound unjoined a w kind fit none e is may = false≢true kind

-- ---- where no activation runs

module _ (p : Plan) (m : Mapping) (h : History) (objects : List Object) (paused : IsPaused p m h objects) (goes : (k : ActKey) → runs k h ≡ true → GoesOn p h k) where
  idle : (k : ActKey) → runs k h ≡ false
  idle k = of_test (runs k h) refl
    where
      of_test : (b : Bool) → runs k h ≡ b → b ≡ false
      of_test false is = refl
      of_test true is =
          let none = all_at (λ (j : ActKey). not (runs j h)) k (keys_of p) paused.none (key_among p m paused.sound k (goes k is).key) in
          absurd (false≢true (sym (ap not is) ∙ none))

  unasked : (k : ActKey) → asked_last k h ≡ None
  unasked k = resting_asked k h (idle k)

  -- the start by an event is what the program of a plain key asks for
  pub start_begins : (e r : ℕ) → runnable_of_event p e ≡ Some r → Begins p h (Act (plain_key r)) (to_start e)
  start_begins e r own = record { kind = refl; program = program }
    where
      back : is_held_back p h (plain_key r) ≡ false
      back = rw (unasked (plain_key r)) refl

      of_event : (u : ℕ) → u ≡ e → (may_start p h (plain_key r) u && not (is_held_back p h (plain_key r))) ≡ true
      of_event u is =
          let starts : same_number (runnable_of_event p u) (Some r) ≡ true = option_test (runnable_of_event p u) (Some r) (ap (runnable_of_event p) is ∙ own) in
          and_from (may_start p h (plain_key r) u) (not (is_held_back p h (plain_key r)))
          (and_from (same_number (runnable_of_event p u) (Some r) && not (runs (plain_key r) h)) true (and_from (same_number (runnable_of_event p u) (Some r)) (not (runs (plain_key r) h)) starts (ap not (idle (plain_key r)))) refl)
          (ap not back)

      program : (d : Deed) → wanted_by 0 d ≡ to_start e → follows_program p h (Act (plain_key r)) d ≡ true
      program (deed.Start u point value) is = let same : u ≡ e = cc in of_event u same
      program d is = absurd (cc is)

  -- ---- all that is tried

  abbrev wished : ActKey → Wanted → List Try
  wished k w = (Act k, w) ∷ []

  none_goes_on : (ks : List ActKey) → gathered (λ k. gathered (wished k) (option_list (next_wish p h k))) ks ≡ []
  none_goes_on [] = refl
  none_goes_on (k ∷ ks) =
      let none : next_wish p h k ≡ None = ap (λ b. if b then option_and_then (wanted_in p k) (activation_of k h) else None) (idle k) in
      (λ i. gathered (wished k) (option_list (none i)) ++ none_goes_on ks i)

  none_calls : (q : ℕ) → direct_try p h q ≡ []
  none_calls q = by_caller (caller_of p q) refl
    where
      by_caller : (o : Option ℕ) → caller_of p q ≡ o → direct_try p h q ≡ []
      by_caller None is = rw is refl
      by_caller (Some r) is = rw (is, unasked (plain_key r)) refl

  no_calls : (qs : List ℕ) → gathered (direct_try p h) qs ≡ []
  no_calls [] = refl
  no_calls (q ∷ qs) = λ i. none_calls q i ++ no_calls qs i

  none_by : (e : ℕ) → event_runs p h e ≡ false
  none_by e = by_runnable (runnable_of_event p e) refl
    where
      by_runnable : (o : Option ℕ) → runnable_of_event p e ≡ o → event_runs p h e ≡ false
      by_runnable None is = rw is refl
      by_runnable (Some r) is = rw (is, idle (plain_key r)) refl

  pub all_free : (t : Task) → is_free p h t ≡ true
  all_free t = ap not (none_of t.events)
    where
      none_of : (es : List ℕ) → list_any (event_runs p h) es ≡ false
      none_of [] = refl
      none_of (e ∷ es) = rw (none_by e) (none_of es)

  all_start : (ts : List Task) → gathered (task_tries p h) ts ≡ gathered (starts_of p) ts
  all_start [] = refl
  all_start (t ∷ ts) = λ i. (if all_free t i then starts_of p t else []) ++ all_start ts i

  tries_are : tries p m h ≡ machine_tries p ++ gathered (starts_of p) m.tasks
  tries_are = λ i. none_goes_on (keys_of p) i ++ no_calls (positions (length p.points)) i ++ machine_tries p ++ all_start m.tasks i

  pub rests : AllStuck p h (machine_tries p) → AllStuck p h (gathered (starts_of p) m.tasks) → IsAtRest p m h
  rests machines starts = subst (AllStuck p h) (sym tries_are) (both p h (machine_tries p) (gathered (starts_of p) m.tasks) machines starts)

-- ---- what the functions answer

pub phase_begins : (p : Plan) (h : History) (n : ℕ) → Begins p h (Machine n) to_move_on
phase_begins p h n = record { kind = refl; program = λ d is. refl }

-- the start by an event of its own runnable fits a key that fits
pub start_fits : (p : Plan) (e : ℕ) (k : ActKey) → key_fits p k ≡ true → runnable_of_event p e ≡ Some k.runnable → wish_fits p (Act k) (to_start e) ≡ true
start_fits p e k fit own =
    let v = sought_where p.events e (λ (u : EventPlan). Some u.runnable) k.runnable own in
    let home = option_test (instance_of p k.runnable) (instance_of p k.runnable) refl in
    let fits : event_fits p (instance_of p k.runnable) e ≡ true =
    and_from (nat_lt e (length p.events)) _ (lt-ltb e (length p.events) (slice_get_within p.events e v.item v.found)) (rw own home) in
    and_from (key_fits p k) (event_fits p (instance_of p k.runnable) e) fit fits

pub started : (p : Plan) (h : History) (e r : ℕ) → runnable_of_event p e ≡ Some r → (b : Bool) → Comes p h (Act (plain_key r), to_start e) b → Starts p h e b
started p h e r own true comes = record { runnable = r; own = own; comes = comes }
started p h e r own false stuck = subst (λ o. AllStuck p h (map (λ s. (Act (plain_key s), to_start e)) (option_list o))) (sym own) (stuck, tt)
