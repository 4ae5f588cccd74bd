-- Calls of the environment while cores make their turns: one more part of a round, that is no core's.
use Rattle.std.specs.Prelude.{◌≡◌, List, [], ◌∷◌, ◌++◌, false, true, None}
use Rattle.bus_semantics.specs.Common.{All, Plan, Past, needs_event, touched_by, Answers, is_proper}
use Rattle.bus_laws.specs.Common.{Env, Stamped}
use Rattle.task_machine.specs.declared.instr.TaskSet.{TaskSet}
use Rattle.task_slots.specs.Stepping.{noting_of}
use Rattle.core_turn.specs.Cores.{CoreState}
use Rattle.core_lanes.specs.Taking.{TakeTurns}

-- a fitting entry of the environment; if it touches no object, it is what the bus answers after every past
pub record IsCall (p : Plan) (s : Stamped) : Type 0 where
  pub actor : s.entry.actor ≡ Env
  pub own : needs_event s.entry.deed ≡ false
  pub event : s.event ≡ None
  pub proper : is_proper p (noting_of s) ≡ true
  pub free : touched_by p (noting_of s) ≡ None → (h : Past) → Answers p h (noting_of s)

-- each core made its part, and the last part are calls of the environment
pub record TakeParts (p : Plan) (t : TaskSet) (cores now : List CoreState) (calls : List Stamped) (parts : List (List Stamped)) : Type 0 where
  pub own : List (List Stamped)
  pub whole : parts ≡ own ++ calls ∷ []
  pub turns : TakeTurns p t cores now own
  pub called : All (IsCall p) calls
