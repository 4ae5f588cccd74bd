-- What bodies promise: an activation asks what the actor rule wants next.
use Rattle.std.specs.Prelude.{◌≡◌, ℕ, ℤ, List, if◌then◌else◌, Option, Some, None, slice_get}
use Rattle.bus_semantics.specs.Common.{list_any, Value, ActKey, words_of, Plan, Runnable, Wanted, is_over, next_of_activity}
use Rattle.bus_semantics.specs.declared.entries.Deed.{Deed}
use Rattle.bus_semantics.specs.declared.entries.Deed.TheVariants as deed
use Rattle.task_machine.specs.declared.instr.TaskSet.{TaskSet}
use Rattle.task_machine.specs.Frames.{asks}

-- what an activation wants next, up to its last deed, which is its End or a refused admission; nothing after that
abbrev pub next_until_over : Plan → Runnable → (event : ℕ) → (start : List ℤ) → (answers : List Deed) → Option Wanted
next_until_over p r event start answers = if list_any is_over answers then None else next_of_activity p r event start answers

-- each activation, begun by any Start and after any answers, asks what the actor rule wants next, and is over if that wants nothing
abbrev pub AsksAsPlanned : Plan → TaskSet → Type 0
AsksAsPlanned p t =
    (k : ActKey) (r : Runnable) (event : ℕ) (point : Option ℕ) (value : Value) (answers : List Deed)
    → slice_get p.runnables k.runnable ≡ Some r
    → asks t k (deed.Start event point value) answers ≡ next_until_over p r event (words_of value) answers
