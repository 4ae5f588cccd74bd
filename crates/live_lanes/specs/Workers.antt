-- All who run at the same time, each at its number: before they work, and after that.
use Rattle.std.specs.Prelude.{◌≡◌, ℕ, List, [], ◌∷◌, ◌++◌, length, map, slice_get, Some}
use Rattle.bus_semantics.specs.Plan.{Plan}
use Rattle.task_machine.specs.declared.instr.TaskSet.{TaskSet}
use Rattle.core_turn.specs.Cores.{CoreState}
use Rattle.cross_core_table.specs.declared.seats.CoreSeat.{CoreSeat}
use Rattle.cross_core_table.specs.OpenRounds.{OpenRound}
use Rattle.feed_queue.specs.declared.passes.Feeder as passes
use Rattle.feed_queue.specs.declared.queue.FeedQueue.{FeedQueue}
use Rattle.feed_queue.specs.declared.feeds.Feeds.{Feeds}
use Rattle.live_lanes.specs.declared.caller.Caller.{Caller}
use Rattle.live_lanes.specs.declared.lanes.Lane.{Lane}
use Rattle.live_lanes.specs.declared.workers.Worker.{Worker}
use Rattle.live_lanes.specs.declared.workers.Worker.TheVariants.{Core, Pump, Feeder}
use Rattle.live_lanes.specs.Callers.{WillCall, HasCalledAll}
use Rattle.live_lanes.specs.Feeders.{WillFeed}
use Rattle.live_lanes.specs.Lanes.{core_in, seat_in, IsSeated, HasGone}

-- the lane of a core, and none of others
abbrev pub lane_in : Worker → List Lane
lane_in (Core l) = l ∷ []
lane_in (Pump c) = []
lane_in (Feeder f) = []

-- cores with these seats, each at its place
pub record AreCores (cores : List CoreState) (seats : List CoreSeat) (workers : List Worker) : Type 0 where
  pub lanes : List Lane
  pub workers_are : workers ≡ map Core lanes
  pub cores_are : map core_in lanes ≡ cores
  pub seats_are : map seat_in lanes ≡ map (λ (s : CoreSeat). Some s) seats

-- cores alone, with the pump behind them, and the pump with the feeders
abbrev pub cores_of : List Lane → List Worker
cores_of lanes = map Core lanes

abbrev pub with_pump : List Lane → Caller → List Worker
with_pump lanes c = cores_of lanes ++ Pump c ∷ []

abbrev pub all_outside : Caller → (feeders : List passes.Feeder) → List Worker
all_outside c feeders = Pump c ∷ map Feeder feeders

abbrev pub WillWork : {F : Type 0} → (lengths : List ℕ) → Plan → TaskSet → OpenRound → FeedQueue F → (number : ℕ) → Worker → Type 0
WillWork lengths p t r q n (Core l) = IsSeated p t r n l
WillWork lengths p t r q n (Pump c) = WillCall lengths r q n c
WillWork lengths p t r q n (Feeder f) = WillFeed lengths q f

-- a core has made its turns, and the pump its calls; of feeders nothing is said, since the pump's order says it
abbrev pub HasWorked : Plan → TaskSet → Feeds → OpenRound → (number : ℕ) → (old new : Worker) → Type 0
HasWorked p t feeds r n (Core l) new = (k : Lane) × (new ≡ Core k) × HasGone p t r n l.core k
HasWorked p t feeds r n (Pump c) new = (d : Caller) × (new ≡ Pump d) × HasCalledAll p feeds r n d
HasWorked p t feeds r n (Feeder f) new = Unit {0}

abbrev pub WillAllWork : {F : Type 0} → (lengths : List ℕ) → Plan → TaskSet → OpenRound → FeedQueue F → List Worker → Type 0
WillAllWork lengths p t r q workers = (i : ℕ) (w : Worker) → slice_get workers i ≡ Some w → WillWork lengths p t r q i w

pub record HaveWorked (p : Plan) (t : TaskSet) (feeds : Feeds) (r : OpenRound) (old new : List Worker) : Type 0 where
  pub count : length new ≡ length old
  pub each : (i : ℕ) (w v : Worker) → slice_get old i ≡ Some w → slice_get new i ≡ Some v → HasWorked p t feeds r i w v
