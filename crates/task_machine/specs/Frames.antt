-- What a frame stands for: a key, the Start of its activation, and the answers so far.
use Rattle.std.specs.Prelude.{◌≡◌, ℕ, ℤ, ◌≤◌, max, List, [], ◌∷◌, get_or, false, if◌then◌else◌, Option, Some, None, slice_get}
use Rattle.bus_semantics.specs.Common.{ActKey, words_of, Wanted, wanted_of}
use Rattle.bus_semantics.specs.declared.entries.Deed.{Deed}
use Rattle.bus_semantics.specs.declared.entries.Deed.TheVariants as deed
use Rattle.task_machine.specs.declared.instr.Body.{Body}
use Rattle.task_machine.specs.declared.instr.TaskSet.{TaskSet}
use Rattle.task_machine.specs.declared.frame.Next.{Next}
use Rattle.task_machine.specs.declared.frame.Next.TheVariants.{Call, Over}
use Rattle.task_machine.specs.Instructions.{Instruction}
use Rattle.task_machine.specs.Machine.{Spot, wanted_at, after}
use Rattle.task_machine.specs.Spots.{code_in, first_spot, no_spot}
use Rattle.task_machine.specs.Standing.{Standing}

-- ---- what an activation asks

-- the instructions of a runnable; none if there is no body
abbrev pub code_from : Option Body → List Instruction
code_from None = []
code_from (Some b) = code_in b

abbrev pub code_of : TaskSet → (runnable : ℕ) → List Instruction
code_of t r = code_from (slice_get t.bodies r)

-- the event of a Start
abbrev pub event_in : Deed → ℕ
event_in (deed.Start event point value) = event
event_in _ = 0

-- the values of the `in` arguments of a Start
abbrev pub words_started : Deed → List ℤ
words_started (deed.Start event point value) = words_of value
words_started _ = []

-- an activation asks first whether it is admitted; one whose event no mode disables begins behind that
abbrev pub first_place : TaskSet → (event : ℕ) → ℕ
first_place t event = if get_or t.disabled event false then 0 else 1

abbrev pub spot_from : TaskSet → (start : Deed) → Option Body → Spot
spot_from t start None = no_spot
spot_from t start (Some b) = first_spot b (first_place t (event_in start)) (words_started start)

-- where the activation stands that began with this Start, after these answers
abbrev pub spot_after : TaskSet → ActKey → (start : Deed) → (answers : List Deed) → Spot
spot_after t k start answers = after (code_of t k.runnable) answers (spot_from t start (slice_get t.bodies k.runnable))

-- what it asks; none if it is over
abbrev pub asks : TaskSet → ActKey → (start : Deed) → (answers : List Deed) → Option Wanted
asks t k start answers = wanted_at (code_of t k.runnable) (event_in start) (spot_after t k start answers)

-- ---- frames

-- a frame stands for the activation of a key that began with this Start, after these answers
pub record Stands (t : TaskSet) (k : ActKey) (start : Deed) (answers : List Deed) (f : Standing) : Type 0 where
  pub key : f.key ≡ k
  pub event : f.event ≡ event_in start
  pub at : f.at ≡ spot_after t k start answers

-- the most that a body has
abbrev pub most : (Body → ℕ) → List Body → ℕ
most f [] = 0
most f (b ∷ bs) = max (f b) (most f bs)

-- a frame has the room that each body of these takes
pub record IsMadeFor (t : TaskSet) (f : Standing) : Type 0 where
  pub vars : most (λ (b : Body). b.vars) t.bodies ≤ f.room.vars
  pub counters : most (λ (b : Body). b.counters) t.bodies ≤ f.counters_room
  pub fetched : most (λ (b : Body). b.fetched) t.bodies ≤ f.room.fetched
  pub written : most (λ (b : Body). b.written) t.bodies ≤ f.room.written

-- what the activation asks where it stands; none if it is over
abbrev pub wanted_here : TaskSet → Standing → Option Wanted
wanted_here t f = wanted_at (code_of t f.key.runnable) f.event f.at

-- what an answer of `next_call` asks
abbrev pub wanted_in : Next → Option Wanted
wanted_in (Call w) = Some (wanted_of w)
wanted_in Over = None
