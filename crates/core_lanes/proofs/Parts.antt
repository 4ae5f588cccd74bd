-- The closed round: what the parts say of its log.
use Rattle.std.proofs.Common.{◌≡◌, ◌≢◌, ◌<◌, ◌≤◌, ◌+◌, ◌*◌, ℕ, zero, suc, Bool, true, false, not, ◌==◌, if◌then◌else◌, refl, sym, ◌∙◌, ap, subst, arith, suc-mul, zero-mul, List, [], ◌∷◌}
use Rattle.std.proofs.Common.{◌++◌, length, All, Some}
use Rattle.std.specs.Prelude.{nat_lt, filter, IfSome}
use Rattle.bus_semantics.specs.Common.{list_all, slice_get, and_from, and_parts, eqb-true, ltb-true, not-true, length_push, All-head, All-nil, All-tail, same_Some, slice_get_within, Plan}
use Rattle.bus_semantics.specs.Common.{positions, every_from, History, Noted, Past, noted, is_environment, touched_by, touches, entries_of, IsObject, clock, fits, IsLegal, is_proper}
use Rattle.bus_semantics.specs.Common.{SameAnswers, IsPastOf, IsSound, Logged, part_of, IsInterleaved}
use mathlib.Core.Logic.{dite}
use native.Mathlib.Decide.{ℕ_discrete}
use Rattle.bus_laws.specs.Common.{Actor, Entry, Stamped, Mapping}
use Rattle.port_objects.specs.declared.object.Object.{Object}
use Rattle.port_objects.specs.Common.{kept_of, ArePlans, Stands}
use Rattle.task_machine.specs.declared.instr.TaskSet.{TaskSet}
use Rattle.task_slots.specs.declared.slot.Slot.{Slot}
use Rattle.task_slots.specs.declared.slot.Slot.TheVariants as of
use Rattle.task_slots.specs.Stepping.{IsOwn}
use Rattle.core_turn.specs.Cores.{CoreState}
use Rattle.core_turn.specs.Lawful.{IsLawful}
use Rattle.core_turn.specs.Ready.{IsReady}
use Rattle.core_turn.specs.Standing.{CoreStands}
use Rattle.cross_core_table.specs.declared.views.Opening.{Opening}
use Rattle.cross_core_table.specs.Logs.{plan_in}
use Rattle.cross_core_table.specs.Closing.{touching, IsClosed}
use Rattle.core_lanes.specs.After.{after, is_within, are_within, is_outside, calls_in}
use Rattle.core_lanes.specs.Calling.{IsCall, TakeParts}
use Rattle.core_lanes.specs.Taking.{TakesTurns, TakeTurns}
use Rattle.bus_laws.proofs.Bundling.{position_at}
use Rattle.bus_laws.proofs.QueueLaws.{at_length}
use Rattle.bus_laws.proofs.Thinning.{there_is}
use Rattle.history_laws.proofs.OpenCalls.{kept_at}
use Rattle.object_kinds.proofs.Lists.{mapped_at}
use Rattle.core_lanes.proofs.Merging.{entries_in, part_mine, part_other, Stage, Merged, merge}

-- a part is what its core made
part_is : (entries : List Stamped) (parts : List (List Stamped)) (w : IsInterleaved entries parts) (c : ℕ) → c < length parts → slice_get parts c ≡ Some (part_of c w.log)
part_is entries parts w c below = subst (λ (ps : List (List Stamped)). slice_get ps c ≡ Some (part_of c w.log)) w.each (mapped_at (λ d. part_of d w.log) (positions (length parts)) c c (position_at (length parts) c below))

-- ---- runnables and machines made them all

-- an actor of a slot is not the environment
pub own_within : (p : Plan) (slot : Slot) (a : Actor) → IsOwn p slot a → not (is_environment a) ≡ true
own_within p (of.Task s) a own = ap (λ b. not (is_environment b)) own.is
own_within p (of.Machine n) a own = ap (λ b. not (is_environment b)) own

turns_within : (p : Plan) (t : TaskSet) (old new : CoreState) (part : List Stamped) → TakesTurns p t old part new → are_within part ≡ true
turns_within p t old new [] turns = refl
turns_within p t old new (s ∷ part) turns = and_from (is_within s) (are_within part) (own_within p turns.1.slot s.entry.actor turns.1.step.own) (turns_within p t turns.0 new part turns.2)

-- the cores below a number made none of the environment's
abbrev Within : ℕ → List Logged → Type 0
Within n log = (j : ℕ) → j < n → are_within (part_of j log) ≡ true

first_within : (n : ℕ) (l : Logged) (log : List Logged) → Within n (l ∷ log) → l.core < n → is_within l.stamped ≡ true
first_within n l log each less = (and_parts (is_within l.stamped) (are_within (part_of l.core log)) (ap are_within (sym (part_mine l log)) ∙ each l.core less)).0

rest_within : (n : ℕ) (l : Logged) (log : List Logged) → Within n (l ∷ log) → Within n log
rest_within n l log each j less = by_core (l.core == j) (each j less)
  where
    by_core : (b : Bool) → are_within (if b then l.stamped ∷ part_of j log else part_of j log) ≡ true → are_within (part_of j log) ≡ true
    by_core true all = (and_parts (is_within l.stamped) (are_within (part_of j log)) all).1
    by_core false all = all

log_within : (i n : ℕ) (log : List Logged) → every_from i (λ k (l : Logged). nat_lt l.core n) log ≡ true → Within n log → are_within (entries_in log) ≡ true
log_within i n [] below each = refl
log_within i n (l ∷ log) below each =
    let parts = and_parts (nat_lt l.core n) (every_from (i + 1) (λ k (x : Logged). nat_lt x.core n) log) below in
    and_from (is_within l.stamped) (are_within (entries_in log)) (first_within n l log each (ltb-true l.core n parts.0)) (log_within (i + 1) n log parts.1 (rest_within n l log each))

-- what the parts of a round say of those of the cores
module _ (p : Plan) (t : TaskSet) (cores now : List CoreState) (own parts : List (List Stamped)) (entries : List Stamped) (turns : TakeTurns p t cores now own) (w : IsInterleaved entries parts)
    (mine : (j : ℕ) → j < length own → slice_get own j ≡ Some (part_of j w.log)) where
  parts_within : Within (length own) w.log
  parts_within j less =
      let c = there_is cores j (omega (arith, less, turns.parts_are)) in
      let d = there_is now j (omega (arith, less, turns.parts_are, turns.count)) in
      turns_within p t c.0 d.0 (part_of j w.log) (turns.each j c.0 d.0 (part_of j w.log) c.1 d.1 (mine j less))

  parts_turn : (j : ℕ) (c d : CoreState) → slice_get cores j ≡ Some c → slice_get now j ≡ Some d → TakesTurns p t c (part_of j w.log) d
  parts_turn j c d found made = turns.each j c d (part_of j w.log) found made (mine j (let less = slice_get_within cores j c found in omega (arith, less, turns.parts_are)))

pub all_within : (p : Plan) (t : TaskSet) (cores now : List CoreState) (parts : List (List Stamped)) (entries : List Stamped) → TakeTurns p t cores now parts → IsInterleaved entries parts → are_within entries ≡ true
all_within p t cores now parts entries turns w = subst (λ es. are_within es ≡ true) w.whole (log_within 0 (length parts) w.log w.cores (parts_within p t cores now parts parts entries turns w (part_is entries parts w)))

-- ---- the environment's part

-- no part is behind all of them
none_behind : (i n c : ℕ) (log : List Logged) → every_from i (λ k (l : Logged). nat_lt l.core n) log ≡ true → n ≤ c → part_of c log ≡ []
none_behind i n c [] below far = refl
none_behind i n c (l ∷ log) below far =
    let parts = and_parts (nat_lt l.core n) (every_from (i + 1) (λ k (x : Logged). nat_lt x.core n) log) below in
    let less : l.core < n = ltb-true l.core n parts.0 in
    part_other c l log (λ same. omega (arith, less)) ∙ none_behind (i + 1) n c log parts.1 far

-- its calls are the environment's entries
log_calls : (p : Plan) (i n : ℕ) (log : List Logged) → every_from i (λ k (l : Logged). nat_lt l.core (suc n)) log ≡ true → Within n log → All (IsCall p) (part_of n log) → calls_in (entries_in log) ≡ part_of n log
log_calls p i n [] below each calls = refl
log_calls p i n (l ∷ log) below each calls =
    let parts = and_parts (nat_lt l.core (suc n)) (every_from (i + 1) (λ k (x : Logged). nat_lt x.core (suc n)) log) below in
    let less : l.core < suc n = ltb-true l.core (suc n) parts.0 in
    dite (ℕ_discrete n l.core)
    (λ is.
    let first : part_of n (l ∷ log) ≡ l.stamped ∷ part_of n log = subst (λ c. part_of c (l ∷ log) ≡ l.stamped ∷ part_of c log) (sym is) (part_mine l log) in
    let all : All (IsCall p) (l.stamped ∷ part_of n log) = subst (All (IsCall p)) first calls in
    let outside : is_outside l.stamped ≡ true = ap is_environment (All-head (IsCall p) l.stamped (part_of n log) all).actor in
    ap (λ b. if b then l.stamped ∷ calls_in (entries_in log) else calls_in (entries_in log)) outside
    ∙ ap (λ xs. l.stamped ∷ xs) (log_calls p (i + 1) n log parts.1 (rest_within n l log each) (All-tail (IsCall p) l.stamped (part_of n log) all))
    ∙ sym first)
    (λ ne.
    let inside : is_outside l.stamped ≡ false = not-true (is_outside l.stamped) (first_within n l log each (omega (arith, less, ne))) in
    let rest : part_of n (l ∷ log) ≡ part_of n log = part_other n l log ne in
    ap (λ b. if b then l.stamped ∷ calls_in (entries_in log) else calls_in (entries_in log)) inside
    ∙ log_calls p (i + 1) n log parts.1 (rest_within n l log each) (subst (All (IsCall p)) rest calls)
    ∙ sym rest)

-- so many parts are the cores', and one is of calls
module _ (p : Plan) (t : TaskSet) (cores now : List CoreState) (calls : List Stamped) (parts : List (List Stamped)) (entries : List Stamped) (x : TakeParts p t cores now calls parts) (w : IsInterleaved entries parts) where
  pub one_more_part : length parts ≡ suc (length x.own)
  one_more_part = omega (arith, ap (λ (ps : List (List Stamped)). length ps) x.whole, length_push x.own calls)

  own_is : (j : ℕ) → j < length x.own → slice_get x.own j ≡ Some (part_of j w.log)
  own_is j less =
      let part = there_is x.own j less in
      let whole : slice_get parts j ≡ Some part.0 = subst (λ ps. slice_get ps j ≡ Some part.0) (sym x.whole) (kept_at x.own (calls ∷ []) j part.0 part.1) in
      part.1 ∙ sym whole ∙ part_is entries parts w j (omega (arith, less, one_more_part))

  calls_are : part_of (length x.own) w.log ≡ calls
  calls_are = same_Some _ _ (
      sym (part_is entries parts w (length x.own) (omega (arith, one_more_part)))
      ∙ ap (λ ps. slice_get ps (length x.own)) x.whole ∙ at_length x.own calls)

  called : All (IsCall p) (part_of (length x.own) w.log)
  called = subst (All (IsCall p)) (sym calls_are) x.called

  pub calls_made : calls_in entries ≡ calls
  calls_made =
      ap calls_in (sym w.whole)
      ∙ log_calls p 0 (length x.own) w.log (subst (λ n. every_from 0 (λ k (l : Logged). nat_lt l.core n) w.log ≡ true) one_more_part w.cores) (parts_within p t cores now x.own parts entries x.turns w own_is) called
      ∙ calls_are

-- ---- how many they are

-- the lengths of the parts of the cores below a number
abbrev sum_parts : ℕ → List Logged → ℕ
sum_parts zero log = 0
sum_parts (suc n) log = sum_parts n log + length (part_of n log)

sum_none : (n : ℕ) → sum_parts n [] ≡ 0
sum_none zero = refl
sum_none (suc n) = omega (arith, sum_none n)

sum_under : (n : ℕ) (l : Logged) (log : List Logged) → n ≤ l.core → sum_parts n (l ∷ log) ≡ sum_parts n log
sum_under zero l log less = refl
sum_under (suc n) l log less =
    let e : part_of n (l ∷ log) ≡ part_of n log = part_other n l log (λ q. omega arith) in
    omega (arith, sum_under n l log (omega arith), ap (λ (xs : List Stamped). length xs) e)

sum_over : (n : ℕ) (l : Logged) (log : List Logged) → l.core < n → sum_parts n (l ∷ log) ≡ suc (sum_parts n log)
sum_over zero l log less = absurd (omega arith)
sum_over (suc n) l log less = dite (ℕ_discrete n l.core)
    (λ is.
    let e : part_of n (l ∷ log) ≡ l.stamped ∷ part_of n log = subst (λ (c : ℕ). part_of c (l ∷ log) ≡ l.stamped ∷ part_of c log) (sym is) (part_mine l log) in
    omega (arith, sum_under n l log (omega arith), ap (λ (xs : List Stamped). length xs) e))
    (λ ne.
    let e : part_of n (l ∷ log) ≡ part_of n log = part_other n l log ne in
    omega (arith, sum_over n l log (omega arith), ap (λ (xs : List Stamped). length xs) e))

sum_all : (i n : ℕ) (log : List Logged) → every_from i (λ k (l : Logged). nat_lt l.core n) log ≡ true → sum_parts n log ≡ length (entries_in log)
sum_all i n [] below = sum_none n
sum_all i n (l ∷ log) below =
    let parts = and_parts (nat_lt l.core n) (every_from (i + 1) (λ k (x : Logged). nat_lt x.core n) log) below in
    omega (arith, sum_over n l log (ltb-true l.core n parts.0), sum_all (i + 1) n log parts.1)

sum_room : (n room : ℕ) (log : List Logged) → ((j : ℕ) → j < n → length (part_of j log) ≤ room) → sum_parts n log ≤ n * room
sum_room zero room log each = omega (arith, zero-mul room)
sum_room (suc n) room log each = omega (arith, sum_room n room log (λ j less. each j (omega arith)), each n (omega arith), suc-mul n room)

pub few_entries : (parts : List (List Stamped)) (entries : List Stamped) (room : ℕ) → ((i : ℕ) (part : List Stamped) → slice_get parts i ≡ Some part → length part ≤ room) → IsInterleaved entries parts → length entries ≤ length parts * room
few_entries parts entries room each w =
    let whole : length (entries_in w.log) ≡ length entries = ap (λ (xs : List Stamped). length xs) w.whole in
    omega (arith, whole, sum_all 0 (length parts) w.log w.cores, sum_room (length parts) room w.log (λ j less. each j (part_of j w.log) (part_is entries parts w j less)))

-- ---- the law

module _ (k : Opening) (m : Mapping) (t : TaskSet) (cores now : List CoreState) (parts : List (List Stamped)) (objects : List Object) (entries : List Stamped) (h : History)
    (sound : IsSound (plan_in k) m) (planned : ArePlans (plan_in k) k.objects.value.items) (lawful : IsLawful (plan_in k) m t cores k.objects.value.items h) (closed : IsClosed k parts objects entries)
    (local_law : (h : Past) (n : Noted) (object : ℕ) → list_all (is_proper (plan_in k)) h ≡ true → is_proper (plan_in k) n ≡ true → touched_by (plan_in k) n ≡ Some object → SameAnswers (plan_in k) n h (filter (touches (plan_in k) object) h))
    (proper_law : (h : History) → IsLegal (plan_in k) h → list_all (is_proper (plan_in k)) (noted h) ≡ true)
    (there_law : (n : Noted) → fits (plan_in k) n.entry ≡ true → IfSome (touched_by (plan_in k) n) (IsObject (plan_in k)))
    (beside_law : (g : History) (one other : CoreState) (at : ℕ) (slot : Slot) (e : Entry) → IsReady (plan_in k) m t one → IsReady (plan_in k) m t other → one.number ≢ other.number → slice_get one.slots at ≡ Some slot → IsOwn (plan_in k) slot e.actor → CoreStands (plan_in k) t g other → CoreStands (plan_in k) t (e ∷ g) other)
    (outside_law : (g : History) (c : CoreState) (e : Entry) → is_environment e.actor ≡ true → CoreStands (plan_in k) t g c → CoreStands (plan_in k) t (e ∷ g) c) where
  abbrev p : Plan
  p = plan_in k

  abbrev log : List Logged
  log = closed.interleaved.log

  counted : p.objects ≡ clock p + 1
  counted = eqb-true p.objects (clock p + 1) (and_parts (p.objects == clock p + 1) _ sound.objects).0

  -- each object stands for the entries that touch it
  standing : (o : ℕ) (x : Object) → slice_get objects o ≡ Some x → Stands p o (kept_of x) (touching p o entries ++ entries_of p h o)
  standing o x found =
      let less = slice_get_within objects o x found in
      let before = there_is k.objects.value.items o (omega (arith, less, closed.planned.count, planned.count)) in
      (closed.led o before.0 x before.1 found).stands (entries_of p h o) (lawful.stand o before.0 before.1)

  past : (o : ℕ) → o < p.objects → IsPastOf p o (touching p o entries ++ entries_of p h o)
  past o less =
      let x = there_is objects o (omega (arith, less, closed.planned.count, counted)) in
      (standing o x.0 x.1).past

  -- each core made its part, and there is one part more at most, of calls
  module _ (count : length now ≡ length cores) (few : length parts ≤ suc (length cores)) (calls : All (IsCall p) (part_of (length now) log))
      (turns : (j : ℕ) (c d : CoreState) → slice_get cores j ≡ Some c → slice_get now j ≡ Some d → TakesTurns p t c (part_of j log) d) where
    opened : Stage p m t sound now local_law proper_law there_law beside_law outside_law cores log h
    opened = record {
      legal = lawful.legal;
      count = count;
      number = lawful.number;
      ready = lawful.ready;
      stands = lawful.stands;
      turns = turns;
      calls = calls;
      past = λ o less. subst (λ es. IsPastOf p o (touching p o es ++ entries_of p h o)) (sym closed.interleaved.whole) (past o less);
    }

    merged : Merged p m t sound now local_law proper_law there_law beside_law outside_law log h
    merged = merge p m t sound now local_law proper_law there_law beside_law outside_law 0 (length parts) log cores h closed.interleaved.cores few opened

    stays_lawful : IsLawful p m t now objects (after entries h)
    stays_lawful = subst (λ es. IsLawful p m t now objects (after es h)) closed.interleaved.whole (record {
      legal = merged.legal;
      objects_are = closed.planned.count;
      cores_are = count ∙ lawful.cores_are;
      stand = λ o x found. subst (Stands p o (kept_of x)) (ap (λ es. touching p o es ++ entries_of p h o) (sym closed.interleaved.whole) ∙ sym (merged.parted o)) (standing o x found);
      number = merged.number;
      ready = merged.ready;
      stands = merged.stands;
    })

  pub keeps_lawful : TakeTurns p t cores now parts → IsLawful p m t now objects (after entries h)
  keeps_lawful turns = stays_lawful turns.count (omega (arith, turns.parts_are))
      (subst (All (IsCall p)) (sym (none_behind 0 (length parts) (length now) log closed.interleaved.cores (omega (arith, turns.parts_are, turns.count)))) (All-nil (IsCall p)))
      (parts_turn p t cores now parts parts entries turns closed.interleaved (part_is entries parts closed.interleaved))

  pub keeps_beside : (calls : List Stamped) → TakeParts p t cores now calls parts → IsLawful p m t now objects (after entries h)
  keeps_beside calls x =
      let w = closed.interleaved in
      let more = one_more_part p t cores now calls parts entries x w in
      let same : length x.own ≡ length now = x.turns.parts_are ∙ sym x.turns.count in
      stays_lawful x.turns.count (omega (arith, more, x.turns.parts_are))
      (subst (λ n. All (IsCall p) (part_of n log)) same (called p t cores now calls parts entries x w))
      (parts_turn p t cores now x.own parts entries x.turns w (own_is p t cores now calls parts entries x w))
