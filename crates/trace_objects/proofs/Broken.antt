-- The clause that an entry breaks which is tried, by what may come of its wish.
use Rattle.std.proofs.Common.{◌≡◌, ℕ, Bool, true, false, ◌&&◌, not, if◌then◌else◌, refl, sym, ◌∙◌, ap, subst, length, nat_lt, Option, Some, None}
use Rattle.std.specs.Prelude.{unwrap_or}
use Rattle.bus_semantics.specs.Common.{and_parts, and_from, false≢true, ActKey, Value, words_of, same_number, Plan, kind_of, instance_of, runnable_of_event, to_start, wanted_by, History}
use Rattle.bus_semantics.specs.Common.{Noted, Past, note, noted, runs, object_of, touched, touched_by, entries_of, key_fits, event_fits, wish_fits, fits, start_fits, may_start}
use Rattle.bus_semantics.specs.Common.{caller_has_asked, is_held_back, follows_program, is_due, Answers, broken_answer, broken_clause, due_allows, is_proper, SameAnswers, start_matches}
use Rattle.bus_semantics.specs.Common.{IsPastOf, NoneMayCome, IsSound}
use Rattle.bus_laws.specs.Common.{Actor, Env, Machine, Act, Deed, Entry, Mapping}
use Rattle.bus_semantics.specs.declared.entries.Deed.TheVariants as deed
use Rattle.bus_semantics.specs.declared.entries.Wish.TheVariants as wish
use Rattle.bus_laws.proofs.Thinning.{option_same}
use Rattle.history_laws.specs.Coming.{IsAsked, Comes}
use Rattle.port_objects.specs.Freed.{is_free}
use Rattle.trace_objects.specs.declared.came.Came.{Came}
use Rattle.trace_objects.specs.declared.came.Came.TheVariants.{Another, Nothing}
use Rattle.trace_objects.specs.Clauses.{clause_by}
use Rattle.trace_objects.specs.Standing.{IsAnother}
use Rattle.trace_objects.proofs.Spoken.{spoken}
use Rattle.trace_objects.proofs.Started.{start, breaks_calls, breaks_either}

-- what starts by the event is due
pub due_by : (p : Plan) (by v : ℕ) (a : Actor) (l : Past) (d : Deed) → wanted_by by d ≡ to_start v → due_allows p l a d ≡ true → is_due p a v l ≡ true
due_by p by v a l (deed.Start u point value) same due = let is : u ≡ v = cc in subst (λ n. is_due p a n l ≡ true) is due
due_by p by v a l d same due = absurd (cc same)

-- the laws that are used
pub record StartLaws (p : Plan) (m : Mapping) (h : History) : Type 0 where
  pub comes : (a : Actor) (event : ℕ) (l : Past) → IsAsked p m a (wish.Start event) l → is_due p a event l ≡ true → start_matches p l event (kind_of p event) ≡ true → Comes p a (wish.Start event) l
  pub matching : (k : ActKey) (event object : ℕ) → key_fits p k ≡ true → may_start p h k event ≡ true → object_of p (Act k) (to_start event) ≡ Some object → start_matches p (entries_of p h object) event (kind_of p event) ≡ true
  pub same : (n : Noted) (object : ℕ) → is_proper p n ≡ true → touched_by p n ≡ Some object → SameAnswers p n (noted h) (entries_of p h object)
  pub unjoined : (a : Actor) (event : ℕ) → object_of p a (to_start event) ≡ None → is_due p a event (noted h) ≡ false
  pub past : (object : ℕ) → IsPastOf p object (entries_of p h object)

-- a start, as it was tried: its event is one of the activation's runnable, and no activation of the key runs
record Begun (p : Plan) (h : History) (k : ActKey) (e : ℕ) (point : Option ℕ) (value : Value) : Type 0 where
  may : may_start p h k e ≡ true
  own : same_number (runnable_of_event p e) (Some k.runnable) ≡ true
  key : key_fits p k ≡ true
  wish : wish_fits p (Act k) (to_start e) ≡ true
  answer : start_fits p (kind_of p e) point (words_of value) ≡ true

module _ (p : Plan) (m : Mapping) (h : History) (sound : IsSound p m) (laws : StartLaws p m h) where
  begun : (k : ActKey) (e : ℕ) (point : Option ℕ) (value : Value) → fits p (record { actor = Act k; deed = deed.Start e point value }) ≡ true → follows_program p h (Act k) (deed.Start e point value) ≡ true → Begun p h k e point value
  begun k e point value fit program =
      let may = (and_parts (may_start p h k e) (not (is_held_back p h k)) program).0 in
      let parts = and_parts (wish_fits p (Act k) (to_start e)) (start_fits p (kind_of p e) point (words_of value)) fit in
      record {
        may = may;
        own = (and_parts (same_number (runnable_of_event p e) (Some k.runnable)) (not (runs k h)) (and_parts (same_number (runnable_of_event p e) (Some k.runnable) && not (runs k h)) (caller_has_asked p h k) may).0).0;
        key = (and_parts (key_fits p k) (event_fits p (instance_of p k.runnable) e) parts.0).0;
        wish = parts.0;
        answer = parts.1;
      }

  module _ (k : ActKey) (e : ℕ) (point : Option ℕ) (value : Value) (b : Begun p h k e point value) where
    runnable : runnable_of_event p e ≡ Some k.runnable
    runnable = option_same (runnable_of_event p e) (Some k.runnable) b.own

    proper : is_proper p (start p (noted h) k e point value) ≡ true
    proper = and_from (fits p (start p (noted h) k e point value).entry) (same_number (runnable_of_event p e) (Some k.runnable)) (and_from (wish_fits p (Act k) (to_start e)) (start_fits p (kind_of p e) point (words_of value)) b.wish b.answer) b.own

    -- where none may come it is not due
    late : (object : ℕ) → object_of p (Act k) (to_start e) ≡ Some object → NoneMayCome p (Act k) (to_start e) (entries_of p h object) → is_due p (Act k) e (noted h) ≡ false
    late object touching none = of_test (is_due p (Act k) e (noted h)) refl
      where
        of_test : (due : Bool) → is_due p (Act k) e (noted h) ≡ due → due ≡ false
        of_test false is = refl
        of_test true is =
            let same = laws.same (start p (noted h) k e point value) object proper touching in
            let number : touched p (Act k) (to_start e) ≡ object = ap (λ o. unwrap_or o 0) touching in
            let asked : IsAsked p m (Act k) (wish.Start e) (entries_of p h object) = record {
              sound = sound;
              fits = b.wish;
              own = b.own;
              touching = touching ∙ ap (λ n. Some n) (sym number);
              past = subst (λ n. IsPastOf p n (entries_of p h object)) (sym number) (laws.past object);
            } in
            let one = laws.comes (Act k) e (entries_of p h object) asked (sym same.due ∙ is) (laws.matching k e object b.key b.may touching) in
            absurd (none one.entry one.comes)

  -- ---- by what may come of its wish

  -- what is no start breaks the one clause that speaks of it
  environment_starts_none : {X : Type 0} (v : ℕ) (point : Option ℕ) (value : Value) → fits p (record { actor = Env; deed = deed.Start v point value }) ≡ true → X
  environment_starts_none v point value fit = absurd (false≢true fit)

  machines_start_none : {X : Type 0} (n v : ℕ) (point : Option ℕ) (value : Value) → fits p (record { actor = Machine n; deed = deed.Start v point value }) ≡ true → X
  machines_start_none n v point value fit =
      let wished = (and_parts (nat_lt n (length p.machines) && false) (start_fits p (kind_of p v) point (words_of value)) fit).0 in
      absurd (false≢true (and_parts (nat_lt n (length p.machines)) false wished).1)

  abbrev Breaks : Actor → Deed → Came → Type 0
  Breaks a d came = broken_answer p (noted h) (note h (record { actor = a; deed = d })) ≡ Some (clause_by a d came)

  abbrev Unanswered : Actor → Deed → Type 0
  Unanswered a d = Answers p (noted h) (note h (record { actor = a; deed = d })) → ⊥

  -- another entry of it
  pub another : (a : Actor) (d : Deed) (by object : ℕ) → fits p (record { actor = a; deed = d }) ≡ true → follows_program p h a d ≡ true → Unanswered a d
      → object_of p a (wanted_by by d) ≡ Some object → IsAnother p (wanted_by by d) (entries_of p h object) (record { actor = a; deed = d }) → Breaks a d Another
  another Env (deed.Start v point value) by object fit program denied touching other = environment_starts_none v point value fit
  another (Machine n) (deed.Start v point value) by object fit program denied touching other = machines_start_none n v point value fit
  another (Act k) (deed.Start v point value) by object fit program denied touching other =
      let b = begun k v point value fit program in
      let l = entries_of p h object in
      let due : is_due p other.entry.actor v l ≡ true = due_by p 0 v other.entry.actor l other.entry.deed other.comes.wish other.comes.follows.answers.due in
      let same = laws.same (start p (noted h) k v point value) object (proper k v point value b) touching in
      breaks_calls p (noted h) k v point value (same.due ∙ subst (λ c. is_due p c v l ≡ true) other.comes.actor due) denied
  another a d by object fit program denied touching other = spoken p (noted h) a (note h (record { actor = a; deed = d })).event d refl denied

  -- none
  pub nothing : (a : Actor) (d : Deed) (by object : ℕ) → fits p (record { actor = a; deed = d }) ≡ true → follows_program p h a d ≡ true → Unanswered a d
      → object_of p a (wanted_by by d) ≡ Some object → NoneMayCome p a (wanted_by by d) (entries_of p h object) → Breaks a d Nothing
  nothing Env (deed.Start v point value) by object fit program denied touching none = environment_starts_none v point value fit
  nothing (Machine n) (deed.Start v point value) by object fit program denied touching none = machines_start_none n v point value fit
  nothing (Act k) (deed.Start v point value) by object fit program denied touching none =
      let b = begun k v point value fit program in
      breaks_either p (noted h) k v point value m sound b.key (runnable k v point value b) (late k v point value b object touching none) b.answer
  nothing a d by object fit program denied touching none = spoken p (noted h) a (note h (record { actor = a; deed = d })).event d refl denied

  -- none, and it touches no object
  pub nothing_alone : (a : Actor) (d : Deed) (by : ℕ) → fits p (record { actor = a; deed = d }) ≡ true → follows_program p h a d ≡ true → Unanswered a d
      → object_of p a (wanted_by by d) ≡ None → Breaks a d Nothing
  nothing_alone Env (deed.Start v point value) by fit program denied none = environment_starts_none v point value fit
  nothing_alone (Machine n) (deed.Start v point value) by fit program denied none = machines_start_none n v point value fit
  nothing_alone (Act k) (deed.Start v point value) by fit program denied none =
      let b = begun k v point value fit program in
      breaks_either p (noted h) k v point value m sound b.key (runnable k v point value b) (laws.unjoined (Act k) v none) b.answer
  nothing_alone a d by fit program denied none = spoken p (noted h) a (note h (record { actor = a; deed = d })).event d refl denied

  -- another one, and it touches no object: it is no start
  pub another_alone : (a : Actor) (d : Deed) (by : ℕ) → is_free (wanted_by by d) ≡ true → Unanswered a d → Breaks a d Another
  another_alone a (deed.Start v point value) by free denied = absurd (false≢true free)
  another_alone a d by free denied = spoken p (noted h) a (note h (record { actor = a; deed = d })).event d refl denied

-- the bus's part of the clauses is what counts where the program asks for the entry
pub as_answered : (p : Plan) (h : History) (e : Entry) (c : Option ℕ) → follows_program p h e.actor e.deed ≡ true → broken_answer p (noted h) (note h e) ≡ c → broken_clause p h e ≡ c
as_answered p h e c program is = (λ i. if program i then broken_answer p (noted h) (note h e) else Some 6) ∙ is
