-- What all who run at the same time know of what they share.
use Rattle.std.specs.Prelude.{◌≡◌, ℕ, List}
use Rattle.bus_semantics.specs.declared.script.Mapping.{Mapping}
use Rattle.bus_semantics.specs.Common.{Plan, IsSound}
use Rattle.task_machine.specs.declared.instr.TaskSet.{TaskSet}
use Rattle.task_generator.specs.Promise.{AsksAsPlanned}
use Rattle.cross_core_table.specs.Common.{plan_in, OpenRound}
use Rattle.feed_queue.specs.declared.feeds.Feeds.{Feeds}
use Rattle.feed_queue.specs.Given.{lengths_of}
use Rattle.live_lanes.specs.Calls.{HaveStood}
use Rattle.live_lanes.specs.Drawn.{AreWished}

-- the round is of the plan, with room for 65,536 entries of each seat; the bodies ask what the sound plan wants; the queue is for the feeds
pub record IsGround (lengths : List ℕ) (p : Plan) (t : TaskSet) (feeds : Feeds) (r : OpenRound) : Type 0 where
  pub plan : plan_in r.opening ≡ p
  pub limit : r.opening.room ≡ 65536
  pub bodies : AsksAsPlanned p t
  pub mapping : Mapping
  pub sound : IsSound p mapping
  pub stood : HaveStood r.opening
  pub long : lengths ≡ lengths_of feeds
  pub wished : AreWished p feeds
