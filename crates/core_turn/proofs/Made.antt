-- A new core has its slots, is ready for turns, and stands for no entry.
use Rattle.std.proofs.Common.{◌≡◌, ℕ, zero, suc, ◌+◌, ◌^◌, ◌<◌, ◌≤◌, Bool, true, false, ◌&&◌, ◌==◌, if◌then◌else◌, refl, sym, ◌∙◌, ap, subst, arith, List, [], ◌∷◌, ◌++◌, length, map, take}
use Rattle.std.proofs.Common.{get_or, Some}
use Rattle.std.specs.Prelude.{filter, nat_lt, nat_le}
use Rattle.bus_semantics.specs.Common.{list_all, slice_get, take_more, append-nil, filter-append, and_parts, eq-eqb, eqb-true, leb-true, clock, Plan, positions, count, gathered, is_name}
use Rattle.bus_semantics.specs.Common.{things, IsSound}
use Rattle.bus_laws.specs.Common.{Mapping, Task}
use Rattle.task_machine.specs.declared.instr.TaskSet.{TaskSet}
use Rattle.task_slots.specs.declared.slot.Slot.{Slot}
use Rattle.task_slots.specs.declared.slot.Slot.TheVariants as of
use Rattle.task_slots.specs.declared.slot.TaskSlot.{TaskSlot}
use Rattle.task_slots.specs.Slots.{Table, of_task, of_machine, table_of, is_running}
use Rattle.task_slots.specs.Made.{IsNew}
use Rattle.task_slots.specs.Ready.{may_be_mapped, IsActive, IsReadySlot}
use Rattle.task_slots.specs.Standing.{ActivityStands, SlotStands}
use Rattle.core_turn.specs.Cores.{CoreState, tasks_of_core, task_tables, machine_tables, tables_of_core, HasSlots}
use Rattle.core_turn.specs.Made.{IsNewSlot, AreNew}
use Rattle.core_turn.specs.Ready.{IsReady}
use Rattle.core_turn.specs.Standing.{CoreStands}
use Rattle.history_laws.specs.LookUps.{all_at}
use Rattle.history_laws.proofs.Lists as lists
use Rattle.task_slots.proofs.Onward.{count_on}
use Rattle.core_turn.proofs.Apart.{tasks_fit, some_counts}
use Rattle.core_turn.proofs.Places.{kept_from, mapped_from, all_from}
use Rattle.core_turn.proofs.Mapped.{listed_mapped}

new_on : (t : TaskSet) (tables : List Table) (slots : List Slot) (x : Table) (s : Slot) → AreNew t tables slots → IsNewSlot t x s → AreNew t (tables ++ x ∷ []) (slots ++ s ∷ [])
new_on t [] [] x s before new = (new, tt)
new_on t [] (y ∷ slots) x s before new = absurd before
new_on t (y ∷ tables) [] x s before new = absurd before
new_on t (y ∷ tables) (z ∷ slots) x s before new = (before.0, new_on t tables slots x s before.1 new)

-- more of them behind
pub all_on : (t : TaskSet) (tables others : List Table) (slots more : List Slot) → AreNew t tables slots → AreNew t others more → AreNew t (tables ++ others) (slots ++ more)
all_on t [] others [] more before after = after
all_on t [] others (y ∷ slots) more before after = absurd before
all_on t (x ∷ tables) others [] more before after = absurd before
all_on t (x ∷ tables) others (y ∷ slots) more before after = (before.0, all_on t tables others slots more before.1 after)

-- machines are new
pub machines_new : (t : TaskSet) (ns : List ℕ) → AreNew t (map of_machine ns) (map of.Machine ns)
machines_new t [] = tt
machines_new t (n ∷ ns) = (refl, machines_new t ns)

-- a sound plan has few machines
pub few_machines : (p : Plan) (m : Mapping) → IsSound p m → length p.machines < 2 ^ 32
few_machines p m sound =
    let both = and_parts (p.objects == clock p + 1) (nat_le p.objects 16384 && nat_le (things p) 16384) sound.objects in
    let counted : p.objects ≡ clock p + 1 = eqb-true p.objects (clock p + 1) both.0 in
    let few : p.objects ≤ 16384 = leb-true p.objects 16384 (and_parts (nat_le p.objects 16384) (nat_le (things p) 16384) both.1).0 in
    omega arith

-- core 0 has the machines, and the others have none
pub with_machines : (p : Plan) (m : Mapping) (t : TaskSet) (number : ℕ) (slots added : List Slot) → number ≡ 0 → AreNew t (task_tables m number) slots → added ≡ slots ++ map of.Machine (positions (length p.machines)) → AreNew t (tables_of_core p m number) added
with_machines p m t number slots added first tasks is =
    let machines : AreNew t (machine_tables p number) (map of.Machine (positions (length p.machines))) = subst (λ n. AreNew t (machine_tables p n) (map of.Machine (positions (length p.machines)))) (sym first) (machines_new t (positions (length p.machines))) in
    subst (AreNew t (tables_of_core p m number)) (sym is) (all_on t (task_tables m number) (machine_tables p number) slots (map of.Machine (positions (length p.machines))) tasks machines)

pub without_machines : (p : Plan) (m : Mapping) (t : TaskSet) (number : ℕ) (slots : List Slot) → (number ≡ 0 → ⊥) → AreNew t (task_tables m number) slots → AreNew t (tables_of_core p m number) slots
without_machines p m t zero slots other tasks = absurd (other refl)
without_machines p m t (suc n) slots other tasks = subst (λ ts. AreNew t ts slots) (sym (append-nil (task_tables m (suc n)))) tasks

-- one task more
module _ (t : TaskSet) (number : ℕ) (tasks : List Task) (slots : List Slot) (i : ℕ) (task : Task) (within : i < length tasks) (is : task ≡ get_or tasks i task) where
  abbrev here : Task → Bool
  here x = x.core == number

  abbrev tables : List Task → List Table
  tables ts = map (λ (x : Task). of_task x.events) ts

  more : filter here (take (i + 1) tasks) ≡ filter here (take i tasks) ++ (if task.core == number then task ∷ [] else [])
  more = ap (filter here) (take_more tasks i task within ∙ ap (λ x. take i tasks ++ x ∷ []) (sym is)) ∙ filter-append here (take i tasks) (task ∷ [])

  tables_on : (xs ys : List Task) → tables (xs ++ ys) ≡ tables xs ++ tables ys
  tables_on [] ys = refl
  tables_on (x ∷ xs) ys = ap (λ zs. of_task x.events ∷ zs) (tables_on xs ys)

  pub taken_on : (s : TaskSlot) → (task.core == number) ≡ true → AreNew t (tables (filter here (take i tasks))) slots → IsNew t task.events s → AreNew t (tables (filter here (take (i + 1) tasks))) (slots ++ of.Task s ∷ [])
  taken_on s ours before new =
      subst (λ ts. AreNew t ts (slots ++ of.Task s ∷ [])) (sym (ap tables (more ∙ ap (λ b. filter here (take i tasks) ++ (if b then task ∷ [] else [])) ours) ∙ tables_on (filter here (take i tasks)) (task ∷ [])))
      (new_on t (tables (filter here (take i tasks))) slots (of_task task.events) (of.Task s) before new)

  pub left_out : (task.core == number) ≡ false → AreNew t (tables (filter here (take i tasks))) slots → AreNew t (tables (filter here (take (i + 1) tasks))) slots
  left_out other before =
      subst (λ ts. AreNew t (tables ts) slots) (sym (more ∙ ap (λ b. filter here (take i tasks) ++ (if b then task ∷ [] else [])) other ∙ append-nil (filter here (take i tasks)))) before

-- ---- the core

slots_listed : (t : TaskSet) (tables : List Table) (slots : List Slot) → AreNew t tables slots → map table_of slots ≡ tables
slots_listed t [] [] new = refl
slots_listed t [] (s ∷ slots) new = absurd new
slots_listed t (x ∷ tables) [] new = absurd new
slots_listed t (x ∷ tables) (s ∷ slots) new = λ i. one x s new.0 i ∷ slots_listed t tables slots new.1 i
  where
    one : (x : Table) (s : Slot) → IsNewSlot t x s → table_of s ≡ x
    one (of_task events) (of.Task s) new = ap of_task new.listed
    one (of_machine n) (of.Machine k) new = ap of_machine new
    one (of_task events) (of.Machine k) new = absurd new
    one (of_machine n) (of.Task s) new = absurd new

-- positions are below their number
below : (n i k : ℕ) → slice_get (positions n) i ≡ Some k → k < n
below zero i k e = absurd (cc e)
below (suc n) i k e = by_end (lists.at_end (positions n) n i k e) (λ j found. below n j k found)
  where
    by_end : lists.AtEnd (positions n) n i k → ((j : ℕ) → slice_get (positions n) j ≡ Some k → k < n) → k < suc n
    by_end (lists.earlier e) rest = let less = rest i e in omega arith
    by_end (lists.last same) rest = omega arith

-- what stands at a place is new
record NewAt (t : TaskSet) (tables : List Table) (s : Slot) : Type 0 where
  place : ℕ
  table : Table
  found : slice_get tables place ≡ Some table
  new : IsNewSlot t table s

new_at : (t : TaskSet) (tables : List Table) (slots : List Slot) (i : ℕ) (s : Slot) → AreNew t tables slots → slice_get slots i ≡ Some s → NewAt t tables s
new_at t tables [] i s new e = absurd (cc e)
new_at t [] (y ∷ slots) i s new e = absurd new
new_at t (x ∷ tables) (y ∷ slots) zero s new e = let same : y ≡ s = cc in record { place = 0; table = x; found = refl; new = subst (IsNewSlot t x) same new.0 }
new_at t (x ∷ tables) (y ∷ slots) (suc i) s new e = let more = new_at t tables slots i s new.1 e in record { place = suc more.place; table = more.table; found = more.found; new = more.new }

module _ (p : Plan) (m : Mapping) (t : TaskSet) (c : CoreState) (new : AreNew t (tables_of_core p m c.number) c.slots) where
  pub has_slots : HasSlots p m c
  has_slots = slots_listed t (tables_of_core p m c.number) c.slots new

  -- ---- each slot is ready

  -- the table is one of these
  data Among (xs ys : List Table) (x : Table) : Type 0 where
    first : (i : ℕ) → slice_get xs i ≡ Some x → Among xs ys x
    last : (i : ℕ) → slice_get ys i ≡ Some x → Among xs ys x

  among : (xs ys : List Table) (i : ℕ) (x : Table) → slice_get (xs ++ ys) i ≡ Some x → Among xs ys x
  among [] ys i x e = last i e
  among (z ∷ xs) ys zero x e = first 0 e
  among (z ∷ xs) ys (suc i) x e = deeper (among xs ys i x e)
    where
      deeper : Among xs ys x → Among (z ∷ xs) ys x
      deeper (first j e) = first (suc j) e
      deeper (last j e) = last j e

  module _ (sound : IsSound p m) where
    -- an event of a task may be mapped
    events_mapped : (task : Task) (i : ℕ) → slice_get m.tasks i ≡ Some task → list_all (may_be_mapped p) task.events ≡ true
    events_mapped task i found = all_from (may_be_mapped p) task.events (λ j e at. listed_mapped p m sound e (inside j e at) (some_mapped m.tasks i found j e at))
      where
        known : list_all (λ e. nat_lt e (length p.events)) task.events ≡ true
        known =
            let whole = all_at (λ (x : Task). nat_lt x.core m.cores && (is_name x.name && list_all (λ e. nat_lt e (length p.events)) x.events)) m.tasks i task (tasks_fit p m sound) found in
            (and_parts (is_name task.name) (list_all (λ e. nat_lt e (length p.events)) task.events) (and_parts (nat_lt task.core m.cores) _ whole).1).1

        inside : (j e : ℕ) → slice_get task.events j ≡ Some e → nat_lt e (length p.events) ≡ true
        inside j e at = all_at (λ e. nat_lt e (length p.events)) task.events j e known at

        some_mapped : (ts : List Task) (i : ℕ) → slice_get ts i ≡ Some task → (j e : ℕ) → slice_get task.events j ≡ Some e → 1 ≤ count (λ d. d == e) (gathered (λ (x : Task). x.events) ts)
        some_mapped [] i found j e at = absurd (cc found)
        some_mapped (x ∷ ts) zero found j e at =
            let same : x ≡ task = cc in
            let here = some_counts (λ d. d == e) x.events j e (ap (λ (y : Task). slice_get y.events j) same ∙ at) (eq-eqb e e refl) in
            let parts = count_on (λ d. d == e) x.events (gathered (λ (x : Task). x.events) ts) in
            omega arith
        some_mapped (x ∷ ts) (suc i) found j e at =
            let more = some_mapped ts i found j e at in
            let parts = count_on (λ d. d == e) x.events (gathered (λ (x : Task). x.events) ts) in
            omega arith

    task_ready : (i : ℕ) (x : Table) (s : Slot) → slice_get (task_tables m c.number) i ≡ Some x → IsNewSlot t x s → IsReadySlot p t s
    task_ready i x s found new =
        let from = mapped_from (λ (y : Task). of_task y.events) (tasks_of_core m c.number) i x found in
        let at = (kept_from (λ (y : Task). y.core == c.number) m.tasks from.at.place from.from from.at.found).at in
        of_slot s from.from.events (events_mapped from.from at.place at.found) (subst (λ y. IsNewSlot t y s) (sym from.is) new)
      where
        of_slot : (s : Slot) (events : List ℕ) → list_all (may_be_mapped p) events ≡ true → IsNewSlot t (of_task events) s → IsReadySlot p t s
        of_slot (of.Machine k) events mapped new = absurd new
        of_slot (of.Task s) events mapped new = record {
          mapped = subst (λ es. list_all (may_be_mapped p) es ≡ true) (sym new.listed) mapped;
          made = new.made;
          made_inner = new.made_inner;
          active = subst (IsActive p t s.events.items s.frame s.inner) (sym new.free) tt;
        }

    machine_ready : (n i : ℕ) (x : Table) (s : Slot) → slice_get (machine_tables p n) i ≡ Some x → IsNewSlot t x s → IsReadySlot p t s
    machine_ready (suc n) i x s found new = absurd (cc found)
    machine_ready zero i x s found new =
        let from = mapped_from of_machine (positions (length p.machines)) i x found in
        of_slot s from.from (below (length p.machines) from.at.place from.from from.at.found) (subst (λ y. IsNewSlot t y s) (sym from.is) new)
      where
        of_slot : (s : Slot) (n : ℕ) → n < length p.machines → IsNewSlot t (of_machine n) s → IsReadySlot p t s
        of_slot (of.Task s) n less new = absurd new
        of_slot (of.Machine k) n less new = subst (λ j. j < length p.machines) (sym new) less

    pub is_ready : IsReady p m t c
    is_ready = record { sound = sound; has = has_slots; each = each }
      where
        each : (i : ℕ) (s : Slot) → slice_get c.slots i ≡ Some s → IsReadySlot p t s
        each i s found = of_among (new_at t (tables_of_core p m c.number) c.slots i s new found)
          where
            of_part : (x : Table) → IsNewSlot t x s → Among (task_tables m c.number) (machine_tables p c.number) x → IsReadySlot p t s
            of_part x new (first j e) = task_ready j x s e new
            of_part x new (last j e) = machine_ready c.number j x s e new

            of_among : NewAt t (tables_of_core p m c.number) s → IsReadySlot p t s
            of_among at = of_part at.table at.new (among (task_tables m c.number) (machine_tables p c.number) at.place at.table at.found)

-- ---- it stands for no entry

pub stands_for_none : (p : Plan) (t : TaskSet) (tables : List Table) (c : CoreState) → AreNew t tables c.slots → CoreStands p t [] c
stands_for_none p t tables c new i s found = of_new s (new_at t tables c.slots i s new found)
  where
    of_slot : (x : Table) (s : Slot) → IsNewSlot t x s → SlotStands p t [] s
    of_slot x (of.Machine n) new = tt
    of_slot (of_machine n) (of.Task s) new = absurd new
    of_slot (of_task events) (of.Task s) new = record {
      one = λ k mine. sym (ap (is_running k) new.free);
      doing = subst (ActivityStands p t [] s.frame s.inner) (sym new.free) tt;
    }

    of_new : (s : Slot) → NewAt t tables s → SlotStands p t [] s
    of_new s at = of_slot at.table s at.new
