-- No activation is of two tasks: the events of a runnable are all mapped to one.
use Rattle.std.proofs.Common.{◌≡◌, ◌≢◌, ℕ, zero, suc, ◌+◌, ◌<◌, ◌≤◌, Bool, true, false, ◌&&◌, ◌||◌, not, ◌==◌, if◌then◌else◌, refl, sym, ◌∙◌, ap, subst, arith, List, [], ◌∷◌, ◌++◌, length}
use Rattle.std.proofs.Common.{map, take, length-append, Option, Some, None}
use Rattle.std.specs.Prelude.{filter, nat_lt, nat_le}
use Rattle.bus_semantics.specs.Common.{list_all, slice_get, and_from, and_parts, eq-eqb, eqb-true, false≢true, nat_tests, take_more, append-nil, take-length, get_or_from_slice_get}
use Rattle.bus_semantics.specs.Common.{same_Some, ActKey, Plan, look, positions, every_from, runnable_of_event, gathered, is_in, same_numbers, is_name, mapped_events, times_mapped, tasks_of}
use Rattle.bus_semantics.specs.Common.{IsSound, count, made_by, same_number, same_key}
use Rattle.bus_laws.specs.Common.{Mapping, Task, EventPlan, Actor}
use Rattle.bus_laws.proofs.Thinning.{option_same}
use Rattle.history_laws.specs.LookUps.{clash, looked}
use Rattle.history_laws.proofs.Lists.{there_is}
use Rattle.task_slots.specs.declared.slot.Slot.{Slot}
use Rattle.task_slots.specs.declared.slot.Slot.TheVariants as of
use Rattle.task_slots.specs.Slots.{Table, of_task, of_machine, table_of, listed_in, events_of_slot, starts, home_of, starts_at, is_key_of}
use Rattle.task_slots.specs.Stepping.{IsOwn}
use Rattle.task_slots.proofs.Basics.{key_same}
use Rattle.task_slots.proofs.Onward.{gathered_on, count_on}
use Rattle.task_slots.proofs.Facts.{started, event_known}
use Rattle.core_turn.specs.Cores.{CoreState, tasks_of_core, task_tables, machine_tables, tables_of_core, HasSlots}

-- ---- counts

pub some_counts : {X : Type 0} (has : X → Bool) (xs : List X) (i : ℕ) (x : X) → slice_get xs i ≡ Some x → has x ≡ true → 1 ≤ count has xs
some_counts has [] i x e is = absurd (cc e)
some_counts has (y ∷ xs) zero x e is = let same : y ≡ x = cc in let here : has y ≡ true = ap has same ∙ is in
    let n : count has (y ∷ xs) ≡ suc (count has xs) = ap (λ b. if b then suc (count has xs) else count has xs) here in omega arith
some_counts has (y ∷ xs) (suc i) x e is = by_test (has y) (some_counts has xs i x e is)
  where
    by_test : (b : Bool) → 1 ≤ count has xs → 1 ≤ (if b then suc (count has xs) else count has xs)
    by_test true less = omega arith
    by_test false less = less

-- where at most one passes, it stands at one place
pub one_place : {X : Type 0} (has : X → Bool) (xs : List X) (i j : ℕ) (x y : X) → count has xs ≤ 1 → slice_get xs i ≡ Some x → has x ≡ true → slice_get xs j ≡ Some y → has y ≡ true → i ≡ j
one_place has [] i j x y few e is f as_well = absurd (cc e)
one_place has (z ∷ xs) zero zero x y few e is f also = refl
one_place has (z ∷ xs) zero (suc j) x y few e is f also =
    let same : z ≡ x = cc in
    let n : count has (z ∷ xs) ≡ suc (count has xs) = ap (λ b. if b then suc (count has xs) else count has xs) (ap has same ∙ is) in
    let more = some_counts has xs j y f also in
    absurd (omega arith)
one_place has (z ∷ xs) (suc i) zero x y few e is f also =
    let same : z ≡ y = cc in
    let n : count has (z ∷ xs) ≡ suc (count has xs) = ap (λ b. if b then suc (count has xs) else count has xs) (ap has same ∙ also) in
    let more = some_counts has xs i x e is in
    absurd (omega arith)
one_place has (z ∷ xs) (suc i) (suc j) x y few e is f also = ap suc (one_place has xs i j x y (fewer (has z) few) e is f also)
  where
    fewer : (b : Bool) → (if b then suc (count has xs) else count has xs) ≤ 1 → count has xs ≤ 1
    fewer true less = omega arith
    fewer false less = less

count_map : {X Y : Type 0} (has : Y → Bool) (f : X → Y) (xs : List X) → count has (map f xs) ≡ count (λ x. has (f x)) xs
count_map has f [] = refl
count_map has f (x ∷ xs) = ap (λ n. if has (f x) then suc n else n) (count_map has f xs)

-- a kept part has at most as many
count_kept : {X : Type 0} (has keep : X → Bool) (xs : List X) → count has (filter keep xs) ≤ count has xs
count_kept has keep [] = omega arith
count_kept has keep (x ∷ xs) = by_test (keep x) (has x) (count_kept has keep xs)
  where
    by_has : (w : Bool) → count has (filter keep xs) ≤ count has xs → (if w then suc (count has (filter keep xs)) else count has (filter keep xs)) ≤ (if w then suc (count has xs) else count has xs)
    by_has true less = omega arith
    by_has false less = less

    without : (w : Bool) → count has (filter keep xs) ≤ count has xs → count has (filter keep xs) ≤ (if w then suc (count has xs) else count has xs)
    without true less = omega arith
    without false less = less

    by_test : (v w : Bool) → count has (filter keep xs) ≤ count has xs → count has (if v then x ∷ filter keep xs else filter keep xs) ≤ count has (x ∷ xs)
    by_test true w less = by_has (has x) less
    by_test false w less = without (has x) less

-- two tests that nothing passes both of keep apart
count_parts : {X : Type 0} (has a b : X → Bool) (xs : List X) → ((x : X) → a x ≡ true → b x ≡ true → ⊥) → count has (filter a xs) + count has (filter b xs) ≤ count has xs
count_parts has a b [] apart = omega arith
count_parts has a b (x ∷ xs) apart = by_test (a x) refl (b x) refl (count_parts has a b xs apart)
  where
    first : (w : Bool) → count has (filter a xs) + count has (filter b xs) ≤ count has xs → (if w then suc (count has (filter a xs)) else count has (filter a xs)) + count has (filter b xs) ≤ (if w then suc (count has xs) else count has xs)
    first true less = omega arith
    first false less = less

    second : (w : Bool) → count has (filter a xs) + count has (filter b xs) ≤ count has xs → count has (filter a xs) + (if w then suc (count has (filter b xs)) else count has (filter b xs)) ≤ (if w then suc (count has xs) else count has xs)
    second true less = omega arith
    second false less = less

    neither : (w : Bool) → count has (filter a xs) + count has (filter b xs) ≤ count has xs → count has (filter a xs) + count has (filter b xs) ≤ (if w then suc (count has xs) else count has xs)
    neither true less = omega arith
    neither false less = less

    by_test : (u : Bool) → a x ≡ u → (v : Bool) → b x ≡ v → count has (filter a xs) + count has (filter b xs) ≤ count has xs
        → count has (if u then x ∷ filter a xs else filter a xs) + count has (if v then x ∷ filter b xs else filter b xs) ≤ count has (x ∷ xs)
    by_test true one true two less = absurd (apart x one two)
    by_test true one false two less = first (has x) less
    by_test false one true two less = second (has x) less
    by_test false one false two less = neither (has x) less

-- ---- the tasks of a runnable

module _ (p : Plan) (r : ℕ) where
  abbrev pub in_task : Task → Bool
  in_task t = starts p r t.events

  abbrev numbered : List Task → ℕ → List ℕ
  numbered ts n = look ts n (λ (t : Task). if starts p r t.events then n ∷ [] else []) []

  one_length : (b : Bool) (n : ℕ) → length (if b then n ∷ [] else []) ≡ (if b then 1 else 0)
  one_length true n = refl
  one_length false n = refl

  counted_to : (ts : List Task) (n : ℕ) → n ≤ length ts → length (gathered (numbered ts) (positions n)) ≡ count in_task (take n ts)
  counted_to ts zero within = refl
  counted_to ts (suc n) within =
      let x = there_is ts n (omega arith) in
      let less : n < length ts = omega arith in
      let before = counted_to ts n (omega arith) in
      let here : numbered ts n ≡ (if starts p r x.0.events then n ∷ [] else []) = looked ts n x.0 (λ (t : Task). if starts p r t.events then n ∷ [] else []) [] x.1 in
      let one : length (gathered (numbered ts) (n ∷ [])) ≡ count in_task (x.0 ∷ []) =
      ap length (append-nil (numbered ts n)) ∙ ap length here ∙ one_length (starts p r x.0.events) n in
      let more : take (suc n) ts ≡ take n ts ++ x.0 ∷ [] =
      ap (λ k. take k ts) next ∙ take_more ts n x.0 less ∙ ap (λ y. take n ts ++ y ∷ []) (get_or_from_slice_get ts n x.0 x.0 x.1) in
      ap length (gathered_on (numbered ts) (positions n) (n ∷ []))
      ∙ length-append (gathered (numbered ts) (positions n)) (gathered (numbered ts) (n ∷ []))
      ∙ (λ i. before i + one i)
      ∙ sym (ap (count in_task) more ∙ count_on in_task (take n ts) (x.0 ∷ []))
    where
      next : suc n ≡ n + 1
      next = omega arith

  all_counted : (m : Mapping) → length (tasks_of p m r) ≡ count in_task m.tasks
  all_counted m = counted_to m.tasks (length m.tasks) (omega arith) ∙ ap (count in_task) (take-length m.tasks)

-- ---- what a sound mapping says

all_but_last : (test : ℕ → Bool) (xs : List ℕ) (n : ℕ) → list_all test (xs ++ n ∷ []) ≡ true → (list_all test xs ≡ true) × (test n ≡ true)
all_but_last test [] n all = (refl, (and_parts (test n) true all).0)
all_but_last test (x ∷ xs) n all =
    let parts = and_parts (test x) (list_all test (xs ++ n ∷ [])) all in
    let rest = all_but_last test xs n parts.1 in
    (and_from (test x) (list_all test xs) parts.0 rest.0, rest.1)

all_below : (test : ℕ → Bool) (n r : ℕ) → list_all test (positions n) ≡ true → r < n → test r ≡ true
all_below test zero r all less = absurd (omega arith)
all_below test (suc n) r all less = of_test (r == n) refl (all_but_last test (positions n) n all) (λ rest below. all_below test n r rest below)
  where
    of_test : (b : Bool) → (r == n) ≡ b → (list_all test (positions n) ≡ true) × (test n ≡ true) → (list_all test (positions n) ≡ true → r < n → test r ≡ true) → test r ≡ true
    of_test true same parts rest = ap test (eqb-true r n same) ∙ parts.1
    of_test false other parts rest =
        let apart : r ≢ n = λ e. clash (r == n) (eq-eqb r n e) other in
        rest parts.0 (omega arith)

starts_one : (p : Plan) (r : ℕ) (events : List ℕ) → starts p r events ≡ true → (e : ℕ) × (runnable_of_event p e ≡ Some r)
starts_one p r [] e = absurd (false≢true e)
starts_one p r (x ∷ events) e = by_test (same_number (runnable_of_event p x) (Some r)) refl e (λ f. starts_one p r events f)
  where
    by_test : (b : Bool) → same_number (runnable_of_event p x) (Some r) ≡ b → (b || starts p r events) ≡ true → (starts p r events ≡ true → (e : ℕ) × (runnable_of_event p e ≡ Some r)) → (e : ℕ) × (runnable_of_event p e ≡ Some r)
    by_test true is any rest = (x, option_same (runnable_of_event p x) (Some r) is)
    by_test false is any rest = rest any

module _ (p : Plan) (m : Mapping) (sound : IsSound p m) where
  pub runnable_inside : (r : ℕ) (events : List ℕ) → starts p r events ≡ true → r < length p.runnables
  runnable_inside r events is =
      let e = starts_one p r events is in
      let s = started p m sound e.0 (event_known p e.0 r e.1) in
      let inside = s.inside in
      subst (λ n. n < length p.runnables) (same_Some s.number r (sym s.starts ∙ e.1)) inside

  abbrev limits : Bool
  limits = is_in 1 8 m.cores

  abbrev numbers : Bool
  numbers = nat_le (length m.tasks) 256

  abbrev each_task : Bool
  each_task = list_all (λ (t : Task). nat_lt t.core m.cores && (is_name t.name && list_all (λ e. nat_lt e (length p.events)) t.events)) m.tasks

  abbrev names : Bool
  names = every_from 0 (λ i (a : Task). every_from 0 (λ j (c : Task). (i == j) || not (same_numbers a.name c.name)) m.tasks) m.tasks

  abbrev mapped : Bool
  mapped = every_from 0 (λ e (v : EventPlan). count (λ d. d == e) (mapped_events m) == times_mapped p v.kind) p.events

  abbrev alone : Bool
  alone = list_all (λ r. nat_le (length (tasks_of p m r)) 1) (positions (length p.runnables))

  after_two : (each_task && (names && (mapped && alone))) ≡ true
  after_two = (and_parts numbers (each_task && (names && (mapped && alone))) (and_parts limits (numbers && (each_task && (names && (mapped && alone)))) sound.tasks).1).1

  pub tasks_fit : list_all (λ (t : Task). nat_lt t.core m.cores && (is_name t.name && list_all (λ e. nat_lt e (length p.events)) t.events)) m.tasks ≡ true
  tasks_fit = (and_parts each_task (names && (mapped && alone)) after_two).0

  after_four : (mapped && alone) ≡ true
  after_four = (and_parts names (mapped && alone) (and_parts each_task (names && (mapped && alone)) after_two).1).1

  pub each_mapped : every_from 0 (λ e (v : EventPlan). count (λ d. d == e) (mapped_events m) == times_mapped p v.kind) p.events ≡ true
  each_mapped = (and_parts mapped alone after_four).0

  one_task : list_all (λ r. nat_le (length (tasks_of p m r)) 1) (positions (length p.runnables)) ≡ true
  one_task = (and_parts mapped alone after_four).1

  pub few : (r : ℕ) → r < length p.runnables → count (in_task p r) m.tasks ≤ 1
  few r inside =
      let test = all_below (λ r. nat_le (length (tasks_of p m r)) 1) (length p.runnables) r one_task inside in
      let less : length (tasks_of p m r) ≤ 1 = grind (arith, nat_tests) in
      let n = all_counted p r m in
      omega arith

  -- the slots of a core have the tasks of the core; a machine has no events
  none_counted : (r : ℕ) (ns : List ℕ) → count (λ (x : Table). starts p r (listed_in x)) (map of_machine ns) ≡ 0
  none_counted r [] = refl
  none_counted r (n ∷ ns) = none_counted r ns

  machines_counted : (r n : ℕ) → count (λ (x : Table). starts p r (listed_in x)) (machine_tables p n) ≡ 0
  machines_counted r zero = none_counted r (positions (length p.machines))
  machines_counted r (suc n) = refl

  slots_counted : (c : CoreState) (r : ℕ) → HasSlots p m c → count (λ s. starts p r (events_of_slot s)) c.slots ≡ count (in_task p r) (tasks_of_core m c.number)
  slots_counted c r has =
      let none = machines_counted r c.number in
      let parts : count (λ (x : Table). starts p r (listed_in x)) (tables_of_core p m c.number) ≡ count (λ (x : Table). starts p r (listed_in x)) (task_tables m c.number) =
      count_on (λ (x : Table). starts p r (listed_in x)) (task_tables m c.number) (machine_tables p c.number) ∙ ap (λ n. count (λ (x : Table). starts p r (listed_in x)) (task_tables m c.number) + n) none ∙ plus_none (count (λ (x : Table). starts p r (listed_in x)) (task_tables m c.number)) in
      sym (count_map (λ (x : Table). starts p r (listed_in x)) table_of c.slots) ∙ ap (count (λ (x : Table). starts p r (listed_in x))) has ∙ parts
      ∙ count_map (λ (x : Table). starts p r (listed_in x)) (λ (t : Task). of_task t.events) (tasks_of_core m c.number)
    where
      plus_none : (n : ℕ) → n + 0 ≡ n
      plus_none n = omega arith

  -- the runnable of a key's home
  record AtHome (events : List ℕ) (k : ActKey) : Type 0 where
    runnable : ℕ
    is : home_of p k ≡ Some runnable
    own : starts p runnable events ≡ true

  at_home : (events : List ℕ) (k : ActKey) → is_key_of p events k ≡ true → AtHome events k
  at_home events k own = by_home (home_of p k) refl own
    where
      by_home : (o : Option ℕ) → home_of p k ≡ o → starts_at p o events ≡ true → AtHome events k
      by_home None is own = absurd (false≢true own)
      by_home (Some r) is own = record { runnable = r; is = is; own = own }

  also_home : (events : List ℕ) (k : ActKey) (r : ℕ) → home_of p k ≡ Some r → is_key_of p events k ≡ true → starts p r events ≡ true
  also_home events k r is own = sym (ap (λ o. starts_at p o events) is) ∙ own

  pub apart : (c : CoreState) (k : ActKey) (i j : ℕ) (a b : Slot) → HasSlots p m c → slice_get c.slots i ≡ Some a → is_key_of p (events_of_slot a) k ≡ true → slice_get c.slots j ≡ Some b → i ≢ j → is_key_of p (events_of_slot b) k ≡ false
  apart c k i j a b has here own there other = of_test (is_key_of p (events_of_slot b) k) refl
    where
      of_test : (v : Bool) → is_key_of p (events_of_slot b) k ≡ v → v ≡ false
      of_test false is = refl
      of_test true is =
          let mine = at_home (events_of_slot a) k own in
          let also = also_home (events_of_slot b) k mine.runnable mine.is is in
          let whole = few mine.runnable (runnable_inside mine.runnable (events_of_slot a) mine.own) in
          let part = count_kept (in_task p mine.runnable) (λ (t : Task). t.core == c.number) m.tasks in
          let slots = slots_counted c mine.runnable has in
          let n : count (λ s. starts p mine.runnable (events_of_slot s)) c.slots ≤ 1 = omega arith in
          absurd (other (one_place (λ s. starts p mine.runnable (events_of_slot s)) c.slots i j a b n here mine.own there also))

  -- nor are two cores
  pub cores_apart : (c d : CoreState) (k : ActKey) (i j : ℕ) (a b : Slot) → HasSlots p m c → HasSlots p m d → c.number ≢ d.number → slice_get c.slots i ≡ Some a → is_key_of p (events_of_slot a) k ≡ true → slice_get d.slots j ≡ Some b
      → is_key_of p (events_of_slot b) k ≡ false
  cores_apart c d k i j a b has others differ here own there = of_test (is_key_of p (events_of_slot b) k) refl
    where
      never : (t : Task) → (t.core == c.number) ≡ true → (t.core == d.number) ≡ true → ⊥
      never t one two = differ (sym (eqb-true t.core c.number one) ∙ eqb-true t.core d.number two)

      of_test : (v : Bool) → is_key_of p (events_of_slot b) k ≡ v → v ≡ false
      of_test false is = refl
      of_test true is =
          let mine = at_home (events_of_slot a) k own in
          let also = also_home (events_of_slot b) k mine.runnable mine.is is in
          let whole = few mine.runnable (runnable_inside mine.runnable (events_of_slot a) mine.own) in
          let parts = count_parts (in_task p mine.runnable) (λ (t : Task). t.core == c.number) (λ (t : Task). t.core == d.number) m.tasks never in
          let first = slots_counted c mine.runnable has in
          let second = slots_counted d mine.runnable others in
          let one = some_counts (λ s. starts p mine.runnable (events_of_slot s)) c.slots i a here mine.own in
          let two = some_counts (λ s. starts p mine.runnable (events_of_slot s)) d.slots j b there also in
          absurd (omega arith)

-- ---- an entry of a slot

-- it is of no key of another task
pub other_entry : (p : Plan) (slot : Slot) (a : Actor) (events : List ℕ) → IsOwn p slot a → ((k : ActKey) → is_key_of p (events_of_slot slot) k ≡ true → is_key_of p events k ≡ false) → (j : ActKey) → is_key_of p events j ≡ true → made_by j a ≡ false
other_entry p (of.Machine n) a events own foreign j mine = ap (made_by j) own
other_entry p (of.Task s) a events own foreign j mine = ap (made_by j) own.is ∙ by_test (same_key j own.key) refl
  where
    by_test : (b : Bool) → same_key j own.key ≡ b → b ≡ false
    by_test false is = refl
    by_test true is = absurd (false≢true (sym (foreign own.key own.own) ∙ ap (is_key_of p events) (sym (key_same j own.key is)) ∙ mine))
