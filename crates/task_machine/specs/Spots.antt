-- What a place in a body stands for, and where an activation begins.
use Rattle.std.specs.Prelude.{ℕ, ℤ, pos, List, [], ◌++◌, map, take, drop, replicate, None}
use Rattle.bus_semantics.specs.Common.{arc_value, option_map, vec_capacity, words_of, stored}
use Rattle.task_machine.specs.declared.instr.Body.{Body}
use Rattle.task_machine.specs.declared.place.Place.{Place}
use Rattle.task_machine.specs.declared.store.Store as declared_store
use Rattle.task_machine.specs.Store.{Store}
use Rattle.task_machine.specs.Instructions.{Instruction, instruction_of, resolved}
use Rattle.task_machine.specs.Machine.{Spot, settled}
use Rattle.task_machine.specs.Standing.{Room}

abbrev pub store_of : declared_store.Store → Store
store_of s = record { vars = s.vars.items; fetched = map words_of s.fetched.items; written = map (option_map words_of) s.written.items }

-- the room that it has
abbrev pub room_of : declared_store.Store → Room
room_of s = record { vars = vec_capacity s.vars; fetched = vec_capacity s.fetched; written = vec_capacity s.written }

abbrev pub spot_of : Place → Spot
spot_of at = record { left = at.left; place = at.place; store = store_of at.store; counters = at.counters.items }

-- the instructions of a body: those before its program, the shared ones of the program, and those after it
abbrev pub code_in : Body → List Instruction
code_in b = resolved b.targets (map instruction_of (take b.before b.around ++ ((arc_value b.code).instrs ++ drop b.before b.around)))

-- if an activation begins, the `in` arguments have the words of its Start, all other variables are 0, and nothing is fetched or written
abbrev pub first_store : Body → (words : List ℤ) → Store
first_store b words = record { vars = stored b.arguments words (replicate b.vars (pos 0)); fetched = replicate b.fetched []; written = replicate b.written None }

-- it begins at this place, and goes on to its first call
abbrev pub first_spot : Body → (place : ℕ) → (words : List ℤ) → Spot
first_spot b place words = settled (code_in b) b.budget place (first_store b words) (replicate b.counters 0)

-- if there is no body it is over
abbrev pub no_spot : Spot
no_spot = record { left = 0; place = 0; store = record { vars = []; fetched = []; written = [] }; counters = [] }
