-- The entries of cores that make their turns at the same time, and calls of the environment meanwhile, one after the other in order of stamps: each may
-- follow those before it.
use Rattle.std.proofs.Common.{◌≡◌, ◌≢◌, ◌<◌, ◌≤◌, ◌⊎◌, inl, inr, ℕ, suc, ◌+◌, Bool, true, false, if◌then◌else◌, refl, sym, ◌∙◌, ap, subst, arith, List, [], ◌∷◌, ◌++◌, map, length, set}
use Rattle.std.proofs.Common.{append_assoc, All, Option, Some, None}
use Rattle.std.specs.Prelude.{filter, nat_lt, IfSome}
use Rattle.bus_semantics.specs.Common.{list_all, slice_get, and_parts, eq-eqb, ltb-true, ne_eqb, length-set, same_Some, slice_get_within, filter-append, All-head, All-tail, same_number}
use Rattle.bus_semantics.specs.Common.{Plan, every_from, History, Noted, Past, is_environment, started_before, note, noted, touched_by, touches, entries_of, IsObject, fits, follows_program}
use Rattle.bus_semantics.specs.Common.{Answers, MayFollow, IsLegal, starts_its_own, is_proper, SameAnswers, Follows, IsPastOf, IsSound, Logged, part_of, past_of}
use mathlib.Core.Logic.{dite}
use native.Mathlib.Decide.{ℕ_discrete}
use Rattle.bus_laws.specs.Common.{Entry, Stamped, Mapping}
use Rattle.bus_laws.proofs.Thinning.{there_is}
use Rattle.task_machine.specs.declared.instr.TaskSet.{TaskSet}
use Rattle.task_slots.specs.declared.slot.Slot.{Slot}
use Rattle.task_slots.specs.Stepping.{noting_of, IsApart, IsOwn}
use Rattle.core_turn.specs.Cores.{CoreState}
use Rattle.core_turn.specs.Ready.{IsReady}
use Rattle.core_turn.specs.Standing.{CoreStands}
use Rattle.cross_core_table.specs.Closing.{touching}
use Rattle.core_lanes.specs.After.{after}
use Rattle.core_lanes.specs.Calling.{IsCall}
use Rattle.core_lanes.specs.Taking.{TakesTurn, TakesTurns}
use Rattle.latches.proofs.Places.{Placed, here, there, placed}
use Rattle.core_lanes.proofs.MergedTurns.{same_ready, same_stands}

-- ---- pasts

-- without the newer entries of a past
past_before : (p : Plan) (o : ℕ) (newer l : Past) → IsPastOf p o (newer ++ l) → IsPastOf p o l
past_before p o [] l past = past
past_before p o (n ∷ newer) l past = past_before p o newer l past.0

-- the oldest entry of a round, where it touches the object
abbrev first_on : Plan → ℕ → Noted → Past → Past
first_on p o n l = if touches p o n then n ∷ l else l

touching_first : (p : Plan) (o : ℕ) (s : Stamped) (more : List Stamped) (l : Past) → touching p o (s ∷ more) ++ l ≡ touching p o more ++ first_on p o (noting_of s) l
touching_first p o s more l =
    ap (λ xs. xs ++ l) (filter-append (touches p o) (past_of more) (noting_of s ∷ [])) ∙ append_assoc (touching p o more) (filter (touches p o) (noting_of s ∷ [])) l ∙ ap (λ xs. touching p o more ++ xs) (one (touches p o (noting_of s)))
  where
    one : (b : Bool) → (if b then noting_of s ∷ [] else []) ++ l ≡ (if b then noting_of s ∷ l else l)
    one true = refl
    one false = refl

-- ---- a round

abbrev pub entries_in : List Logged → List Stamped
entries_in log = map (λ (l : Logged). l.stamped) log

-- what is left of a log for a core after its first entry
pub part_mine : (l : Logged) (log : List Logged) → part_of l.core (l ∷ log) ≡ l.stamped ∷ part_of l.core log
part_mine l log = ap (λ b. if b then l.stamped ∷ part_of l.core log else part_of l.core log) (eq-eqb l.core l.core refl)

pub part_other : (j : ℕ) (l : Logged) (log : List Logged) → j ≢ l.core → part_of j (l ∷ log) ≡ part_of j log
part_other j l log other = ap (λ b. if b then l.stamped ∷ part_of j log else part_of j log) (ne_eqb l.core j (λ e. other (sym e)))

module _ (p : Plan) (m : Mapping) (t : TaskSet) (sound : IsSound p m) (now : List CoreState)
    (local_law : (h : Past) (n : Noted) (object : ℕ) → list_all (is_proper p) h ≡ true → is_proper p n ≡ true → touched_by p n ≡ Some object → SameAnswers p n h (filter (touches p object) h))
    (proper_law : (h : History) → IsLegal p h → list_all (is_proper p) (noted h) ≡ true)
    (there_law : (n : Noted) → fits p n.entry ≡ true → IfSome (touched_by p n) (IsObject p))
    (beside_law : (g : History) (one other : CoreState) (at : ℕ) (slot : Slot) (e : Entry) → IsReady p m t one → IsReady p m t other → one.number ≢ other.number → slice_get one.slots at ≡ Some slot → IsOwn p slot e.actor → CoreStands p t g other → CoreStands p t (e ∷ g) other)
    (outside_law : (g : History) (c : CoreState) (e : Entry) → is_environment e.actor ≡ true → CoreStands p t g c → CoreStands p t (e ∷ g) c) where
  -- the cores stand for a legal history; of the rest of the log each makes its part up to what it is now, and the part behind theirs are calls; and on top of
  -- the history it makes a past of each object
  pub record Stage (cores : List CoreState) (log : List Logged) (g : History) : Type 0 where
    pub legal : IsLegal p g
    pub count : length now ≡ length cores
    pub number : (j : ℕ) (c : CoreState) → slice_get cores j ≡ Some c → c.number ≡ j
    pub ready : (j : ℕ) (c : CoreState) → slice_get cores j ≡ Some c → IsReady p m t c
    pub stands : (j : ℕ) (c : CoreState) → slice_get cores j ≡ Some c → CoreStands p t g c
    pub turns : (j : ℕ) (c d : CoreState) → slice_get cores j ≡ Some c → slice_get now j ≡ Some d → TakesTurns p t c (part_of j log) d
    pub calls : All (IsCall p) (part_of (length now) log)
    pub past : (o : ℕ) → o < p.objects → IsPastOf p o (touching p o (entries_in log) ++ entries_of p g o)

  -- so the cores are after it, and each object's entries are those before and those of the log
  pub record Merged (log : List Logged) (g : History) : Type 0 where
    pub legal : IsLegal p (after (entries_in log) g)
    pub number : (j : ℕ) (c : CoreState) → slice_get now j ≡ Some c → c.number ≡ j
    pub ready : (j : ℕ) (c : CoreState) → slice_get now j ≡ Some c → IsReady p m t c
    pub stands : (j : ℕ) (c : CoreState) → slice_get now j ≡ Some c → CoreStands p t (after (entries_in log) g) c
    pub parted : (o : ℕ) → entries_of p (after (entries_in log) g) o ≡ touching p o (entries_in log) ++ entries_of p g o

  -- the entry fits and follows its actor's program; where it touches no object it is what the bus answers; it came with the event of its activation, or
  -- touches no object
  pub record Comes (g : History) (s : Stamped) : Type 0 where
    pub proper : is_proper p (noting_of s) ≡ true
    pub rule : follows_program p g s.entry.actor s.entry.deed ≡ true
    pub free : touched_by p (note g s.entry) ≡ None → Answers p (noted g) (note g s.entry)
    pub noting : (note g s.entry ≡ noting_of s) ⊎ IsApart p g s

  -- ---- one entry

  module _ (cores : List CoreState) (l : Logged) (log : List Logged) (g : History) (stage : Stage cores (l ∷ log) g) where
    abbrev s : Stamped
    s = l.stamped

    abbrev longer : History
    longer = s.entry ∷ g

    module _ (comes : Comes g s) where
      fit : fits p s.entry ≡ true
      fit = (and_parts (fits p s.entry) (starts_its_own p s.entry.actor s.entry.deed) comes.proper).0

      -- the entries of an object with this one
      one_more : (o : ℕ) (x : Past) → first_on p o (note g s.entry) x ≡ first_on p o (noting_of s) x
      one_more o x = by_noting comes.noting
        where
          none : (n : Noted) → touched_by p n ≡ None → first_on p o n x ≡ x
          none n untouched = ap (λ b. if b then n ∷ x else x) (ap (λ v. same_number v (Some o)) untouched)

          by_noting : (note g s.entry ≡ noting_of s) ⊎ IsApart p g s → first_on p o (note g s.entry) x ≡ first_on p o (noting_of s) x
          by_noting (inl named) = ap (λ n. first_on p o n x) named
          by_noting (inr apart) = none (note g s.entry) apart.named ∙ sym (none (noting_of s) apart.stamped)

      moved : (o : ℕ) → touching p o (entries_in (l ∷ log)) ++ entries_of p g o ≡ touching p o (entries_in log) ++ entries_of p longer o
      moved o = touching_first p o s (entries_in log) (entries_of p g o) ∙ ap (λ x. touching p o (entries_in log) ++ x) (sym (one_more o (entries_of p g o)))

      past_on : (o : ℕ) → o < p.objects → IsPastOf p o (touching p o (entries_in log) ++ entries_of p longer o)
      past_on o inside = subst (IsPastOf p o) (moved o) (stage.past o inside)

      -- it is what the bus answers
      on_object : (o : ℕ) → touched_by p (note g s.entry) ≡ Some o → Answers p (noted g) (note g s.entry)
      on_object o touched =
          let inside : o < p.objects = subst (λ v. IfSome v (IsObject p)) touched (there_law (note g s.entry) fit) in
          let touch : touches p o (note g s.entry) ≡ true = ap (λ v. same_number v (Some o)) touched ∙ eq-eqb o o refl in
          let past : IsPastOf p o (entries_of p longer o) = past_before p o (touching p o (entries_in log)) (entries_of p longer o) (past_on o inside) in
          let follow : Follows p o (entries_of p g o) (note g s.entry) = (subst (IsPastOf p o) (ap (λ b. if b then note g s.entry ∷ entries_of p g o else entries_of p g o) touch) past).1 in
          more (local_law (noted g) (note g s.entry) o (proper_law g stage.legal) follow.proper touched) follow.answers
        where
          more : {h x : Past} → SameAnswers p (note g s.entry) h x → Answers p x (note g s.entry) → Answers p h (note g s.entry)
          more same answers = record {
            unqueued = same.unqueued ∙ answers.unqueued;
            queued = same.queued ∙ answers.queued;
            calls = same.calls ∙ answers.calls;
            areas = same.areas ∙ answers.areas;
            modes = same.modes ∙ answers.modes;
            admission = same.admission ∙ answers.admission;
            due = same.due ∙ answers.due;
          }

      answered : Answers p (noted g) (note g s.entry)
      answered = by_object (touched_by p (note g s.entry)) refl
        where
          by_object : (v : Option ℕ) → touched_by p (note g s.entry) ≡ v → Answers p (noted g) (note g s.entry)
          by_object None untouched = comes.free untouched
          by_object (Some o) touched = on_object o touched

      may_follow : MayFollow p g s.entry
      may_follow = record { fit = fit; actor = comes.rule; answers = answered }

      pub merged_on : Merged log longer → Merged (l ∷ log) g
      merged_on later = record {
        legal = later.legal;
        number = later.number;
        ready = later.ready;
        stands = later.stands;
        parted = λ o. later.parted o ∙ sym (moved o);
      }

    -- ---- a core's

    module _ (old next : CoreState) (is : slice_get cores l.core ≡ Some old) (turn : TakesTurn p t old next s) where
      old_ready : IsReady p m t old
      old_ready = stage.ready l.core old is

      pub turn_comes : Comes g s
      turn_comes =
          let follows = turn.step.follows g (stage.stands l.core old is turn.at turn.slot turn.there) in
          record { proper = turn.step.proper; rule = follows.rule; free = follows.free; noting = follows.noting }

      -- the other cores stand for it too
      other_core : (j : ℕ) (c : CoreState) → j ≢ l.core → slice_get cores j ≡ Some c → CoreStands p t longer c
      other_core j c other found = beside_law g old c turn.at turn.slot s.entry old_ready (stage.ready j c found) differ turn.there turn.step.own (stage.stands j c found)
        where
          differ : old.number ≢ c.number
          differ e = other (sym (sym (stage.number l.core old is) ∙ e ∙ stage.number j c found))

      -- the part behind the cores' is none of theirs
      no_call : length now ≢ l.core
      no_call same = let less = slice_get_within cores l.core old is in omega (arith, less, stage.count)

      -- what is left
      module _ (rest : (d : CoreState) → slice_get now l.core ≡ Some d → TakesTurns p t next (part_of l.core log) d) where
        number_of : (j : ℕ) (c : CoreState) → Placed CoreState cores l.core next j c → c.number ≡ j
        number_of j c (here place same) = ap (λ (x : CoreState). x.number) same ∙ turn.number ∙ stage.number l.core old is ∙ sym place
        number_of j c (there other found) = stage.number j c found

        ready_of : (j : ℕ) (c : CoreState) → Placed CoreState cores l.core next j c → IsReady p m t c
        ready_of j c (here place same) = subst (IsReady p m t) (sym same) (turn.ready m old_ready)
        ready_of j c (there other found) = stage.ready j c found

        stands_of : (j : ℕ) (c : CoreState) → Placed CoreState cores l.core next j c → CoreStands p t longer c
        stands_of j c (here place same) = subst (CoreStands p t longer) (sym same) (turn.stands g (stage.stands l.core old is))
        stands_of j c (there other found) = other_core j c other found

        turns_of : (j : ℕ) (c d : CoreState) → slice_get now j ≡ Some d → Placed CoreState cores l.core next j c → TakesTurns p t c (part_of j log) d
        turns_of j c d made (here place same) =
            subst (λ x. TakesTurns p t x (part_of j log) d) (sym same) (subst (λ i. TakesTurns p t next (part_of i log) d) (sym place) (rest d (subst (λ i. slice_get now i ≡ Some d) place made)))
        turns_of j c d made (there other found) = subst (λ part. TakesTurns p t c part d) (part_other j l log other) (stage.turns j c d found made)

        pub next_stage : Stage (set cores l.core next) log longer
        next_stage = record {
          legal = (stage.legal, may_follow turn_comes);
          count = stage.count ∙ sym (length-set cores l.core next);
          number = λ j c found. number_of j c (placed cores l.core next j c found);
          ready = λ j c found. ready_of j c (placed cores l.core next j c found);
          stands = λ j c found. stands_of j c (placed cores l.core next j c found);
          turns = λ j c d found made. turns_of j c d made (placed cores l.core next j c found);
          calls = subst (All (IsCall p)) (part_other (length now) l log no_call) stage.calls;
          past = past_on turn_comes;
        }

    -- ---- the environment's

    module _ (is : length now ≡ l.core) where
      mine : All (IsCall p) (s ∷ part_of (length now) log)
      mine = subst (All (IsCall p)) (subst (λ c. part_of c (l ∷ log) ≡ s ∷ part_of c log) (sym is) (part_mine l log)) stage.calls

      call : IsCall p s
      call = All-head (IsCall p) s (part_of (length now) log) mine

      named : note g s.entry ≡ noting_of s
      named = (λ i. record { entry = s.entry; event = if call.own i then started_before s.entry.actor g else None }) ∙ (λ i. record { entry = s.entry; event = sym call.event i })

      pub call_comes : Comes g s
      call_comes = record {
        proper = call.proper;
        rule = ap (λ a. follows_program p g a s.entry.deed) call.actor;
        free = λ untouched. subst (Answers p (noted g)) (sym named) (call.free (subst (λ n. touched_by p n ≡ None) named untouched) (noted g));
        noting = inl named;
      }

      no_core : (j : ℕ) (c : CoreState) → slice_get cores j ≡ Some c → j ≢ l.core
      no_core j c found same = let less = slice_get_within cores j c found in omega (arith, less, stage.count)

      -- no core changes
      pub call_stage : Stage cores log longer
      call_stage = record {
        legal = (stage.legal, may_follow call_comes);
        count = stage.count;
        number = stage.number;
        ready = stage.ready;
        stands = λ j c found. outside_law g c s.entry (ap is_environment call.actor) (stage.stands j c found);
        turns = λ j c d found made. subst (λ part. TakesTurns p t c part d) (part_other j l log (no_core j c found)) (stage.turns j c d found made);
        calls = All-tail (IsCall p) s (part_of (length now) log) mine;
        past = past_on call_comes;
      }

  -- ---- all of them

  -- none is of a part behind that
  pub merge : (i n : ℕ) (log : List Logged) (cores : List CoreState) (g : History) → every_from i (λ k (l : Logged). nat_lt l.core n) log ≡ true → n ≤ suc (length cores) → Stage cores log g → Merged log g
  merge i n [] cores g within count stage = record {
    legal = stage.legal;
    number = λ j d made. let c = before j d made in (stage.turns j c.0 d c.1 made).number ∙ stage.number j c.0 c.1;
    ready = λ j d made. let c = before j d made in same_ready p t c.0 d (stage.turns j c.0 d c.1 made) m (stage.ready j c.0 c.1);
    stands = λ j d made. let c = before j d made in same_stands p t c.0 d (stage.turns j c.0 d c.1 made) g (stage.stands j c.0 c.1);
    parted = λ o. refl;
  }
    where
      before : (j : ℕ) (d : CoreState) → slice_get now j ≡ Some d → (c : CoreState) × (slice_get cores j ≡ Some c)
      before j d made = let less = slice_get_within now j d made in there_is cores j (omega (arith, less, stage.count))
  merge i n (l ∷ log) cores g within count stage =
      let parts = and_parts (nat_lt l.core n) (every_from (i + 1) (λ k (x : Logged). nat_lt x.core n) log) within in
      let below : l.core < n = ltb-true l.core n parts.0 in
      dite (ℕ_discrete (length now) l.core)
      (λ is. merged_on cores l log g stage (call_comes cores l log g stage is) (merge (i + 1) n log cores (l.stamped.entry ∷ g) parts.1 count (call_stage cores l log g stage is)))
      (λ ne.
      let c = there_is cores l.core (omega (arith, below, count, stage.count, ne)) in
      let d = there_is now l.core (omega (arith, below, count, stage.count, ne)) in
      let turns : TakesTurns p t c.0 (l.stamped ∷ part_of l.core log) d.0 = subst (λ part. TakesTurns p t c.0 part d.0) (part_mine l log) (stage.turns l.core c.0 d.0 c.1 d.1) in
      let rest : (x : CoreState) → slice_get now l.core ≡ Some x → TakesTurns p t turns.0 (part_of l.core log) x = λ x made. subst (TakesTurns p t turns.0 (part_of l.core log)) (same_Some _ _ (sym d.1 ∙ made)) turns.2 in
      let stage_on = next_stage cores l log g stage c.0 turns.0 c.1 turns.1 rest in
      merged_on cores l log g stage (turn_comes cores l log g stage c.0 turns.0 c.1 turns.1)
      (merge (i + 1) n log (set cores l.core turns.0) (l.stamped.entry ∷ g) parts.1 (let same = length-set cores l.core turns.0 in omega (arith, count, same)) stage_on))
