-- The names that proofs and the crates above cite, passed on from one place. Declares nothing.
pub use Rattle.port_objects.specs.Common.{tick_of_env}
pub use Rattle.core_runtime.specs.After.{after}
pub use Rattle.core_runtime.specs.Nodes.{AreNewCores, IsLawfulNode, IsNode, NodeState}
pub use Rattle.core_runtime.specs.Rounds.{IsLater, IsRound, IsTurn, Rested, RoundState, Stepped}
pub use Rattle.core_runtime.specs.Turns.{AreReady, EachTakesOne, GoesOn, IsStep, Made, Makes, NothingMayCome, Rests}
pub use Rattle.core_runtime.specs.Watching.{Adds, AllWatched, AreBehind, AreRoused, AreSeated, AreStarters, AreWaiting, AreWatched, AreWoken, HaveSameTasks, IsAfter, IsAt, IsOfCore}
pub use Rattle.core_runtime.specs.Watching.{IsOfCores, IsOfTask, IsSeen, IsThere, IsUp, IsWatch, IsWatched, IsWoken, IsWokenAt, Touches, is_awake, owners_of, tables_of}
pub use Rattle.core_runtime.specs.declared.live.Live.{Live}
pub use Rattle.core_runtime.specs.declared.seats.Seat.{Seat}
