-- A turn of a core at its bench in a round.
use Rattle.std.specs.Prelude.{◌≡◌, List, [], ◌∷◌, ◌++◌, Bool, true, false}
use Rattle.bus_semantics.specs.declared.entries.Stamped.{Stamped}
use Rattle.bus_semantics.specs.Plan.{Plan}
use Rattle.task_machine.specs.declared.instr.TaskSet.{TaskSet}
use Rattle.core_turn.specs.declared.turning.Turned.{Turned}
use Rattle.core_turn.specs.declared.turning.Turned.TheVariants.{Stepped, NothingNow, Contended}
use Rattle.core_turn.specs.Cores.{CoreState}
use Rattle.core_lanes.specs.Taking.{IsSameCore, TakesTurn}

-- it made an entry, the last of what the core made; and the core's trace was cleared
pub record IsLonger (p : Plan) (t : TaskSet) (old new : CoreState) (before after : List Stamped) : Type 0 where
  pub made : Stamped
  pub stepped : CoreState
  pub added : after ≡ before ++ made ∷ []
  pub turn : TakesTurn p t old stepped made
  pub same : IsSameCore stepped new

-- or none
abbrev pub IsTaken : Plan → TaskSet → (old new : CoreState) → (before after : List Stamped) → (made : Bool) → Type 0
IsTaken p t old new before after true = IsLonger p t old new before after
IsTaken p t old new before after false = (new ≡ old) × (after ≡ before)

-- whether a turn made an entry
abbrev pub has_made : Turned → Bool
has_made Stepped = true
has_made NothingNow = false
has_made (Contended object) = false
