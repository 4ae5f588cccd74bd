-- What a core keeps, and the order in which it looks at its slots.
use Rattle.std.specs.Prelude.{◌≡◌, ℕ, zero, suc, ◌+◌, ◌-◌, List, [], ◌∷◌, ◌++◌, take, drop, map, filter, length, ◌==◌, nat_le, if◌then◌else◌}
use Rattle.bus_laws.specs.Common.{Mapping, Task, Stamped}
use Rattle.bus_semantics.specs.Plan.{Plan, positions}
use Rattle.task_slots.specs.declared.slot.Slot.{Slot}
use Rattle.task_slots.specs.Slots.{Table, of_task, of_machine, table_of, looks}

-- its number, its slots, the slot at which the next turn begins, its trace with the oldest entry first, and how many entries the trace
-- still has room for
pub record CoreState : Type 0 where
  pub number : ℕ
  pub slots : List Slot
  pub first : ℕ
  pub trace : List Stamped
  pub room : ℕ

-- its tasks in the order of the description (SWS_RTE: mapping to cores)
abbrev pub tasks_of_core : Mapping → (number : ℕ) → List Task
tasks_of_core m n = filter (λ (t : Task). t.core == n) m.tasks

abbrev pub task_tables : Mapping → (number : ℕ) → List Table
task_tables m n = map (λ (t : Task). of_task t.events) (tasks_of_core m n)

-- the mode machines are those of core 0
abbrev pub machine_tables : Plan → (number : ℕ) → List Table
machine_tables p zero = map of_machine (positions (length p.machines))
machine_tables p (suc n) = []

-- it has a slot for each of its tasks, and behind them one for each of its mode machines
abbrev pub tables_of_core : Plan → Mapping → (number : ℕ) → List Table
tables_of_core p m n = task_tables m n ++ machine_tables p n

abbrev pub HasSlots : Plan → Mapping → CoreState → Type 0
HasSlots p m c = map table_of c.slots ≡ tables_of_core p m c.number

-- the slots from one place up to another
abbrev pub slots_between : (from : ℕ) → (to : ℕ) → List Slot → List Slot
slots_between from to slots = take (to - from) (drop from slots)

-- the slots before a place, in cyclic order from the first on
abbrev pub slots_before : (first : ℕ) → (at : ℕ) → List Slot → List Slot
slots_before first at slots = if nat_le first at then slots_between first at slots else drop first slots ++ take at slots

-- the looks of all slots
abbrev pub looks_in : Plan → List Slot → ℕ
looks_in p [] = 0
looks_in p (s ∷ slots) = looks p s + looks_in p slots
