-- What a core makes by turns, one entry after the other, whatever its bench tells of the objects (OS: scheduling; SWS_RTE: runnable
-- activation). Cores that make their turns at the same time each make such a list.
use Rattle.std.specs.Prelude.{◌≡◌, ℕ, List, [], ◌∷◌, length, slice_get, Some}
use Rattle.bus_laws.specs.Common.{Stamped, Mapping}
use Rattle.bus_semantics.specs.Common.{Plan, History}
use Rattle.task_machine.specs.declared.instr.TaskSet.{TaskSet}
use Rattle.task_slots.specs.declared.slot.Slot.{Slot}
use Rattle.task_slots.specs.Stepping.{SlotStep}
use Rattle.core_turn.specs.Cores.{CoreState}
use Rattle.core_turn.specs.Ready.{IsReady}
use Rattle.core_turn.specs.Standing.{CoreStands}

-- the same core with the same tasks, whatever its trace
pub record IsSameCore (old new : CoreState) : Type 0 where
  pub number : new.number ≡ old.number
  pub slots : new.slots ≡ old.slots

-- a turn made an entry of one of the core's slots: after each history for which the core stood, it stands for the entry too
pub record TakesTurn (p : Plan) (t : TaskSet) (old new : CoreState) (s : Stamped) : Type 0 where
  pub at : ℕ
  pub slot : Slot
  pub stepped : Slot
  pub there : slice_get old.slots at ≡ Some slot
  pub number : new.number ≡ old.number
  pub step : SlotStep p t slot stepped s
  pub ready : (m : Mapping) → IsReady p m t old → IsReady p m t new
  pub stands : (g : History) → CoreStands p t g old → CoreStands p t (s.entry ∷ g) new

-- turns made these entries, the oldest first, each from where the one before left the core
abbrev pub TakesTurns : Plan → TaskSet → (old : CoreState) → List Stamped → (new : CoreState) → Type 0
TakesTurns p t old [] new = IsSameCore old new
TakesTurns p t old (s ∷ part) new = (next : CoreState) × TakesTurn p t old next s × TakesTurns p t next part new

-- each core made its part
pub record TakeTurns (p : Plan) (t : TaskSet) (cores now : List CoreState) (parts : List (List Stamped)) : Type 0 where
  pub count : length now ≡ length cores
  pub parts_are : length parts ≡ length cores
  pub each : (i : ℕ) (old new : CoreState) (part : List Stamped) → slice_get cores i ≡ Some old → slice_get now i ≡ Some new → slice_get parts i ≡ Some part → TakesTurns p t old part new
