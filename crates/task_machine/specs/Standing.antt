-- What a frame keeps.
use Rattle.std.specs.Prelude.{ℕ}
use Rattle.rte_value.specs.declared.kinds.ActKey.{ActKey}
use Rattle.task_machine.specs.Machine.{Spot}

-- the room for variables, for fetched values and for values to publish
pub record Room : Type 0 where
  pub vars : ℕ
  pub fetched : ℕ
  pub written : ℕ

-- the key of its activation, the event that started it, where it stands, and the room for its store and for counters
pub record Standing : Type 0 where
  pub key : ActKey
  pub event : ℕ
  pub at : Spot
  pub room : Room
  pub counters_room : ℕ
