-- The pump with the environment's seat: before its calls, and after them.
use Rattle.std.specs.Prelude.{◌≡◌, ◌≤◌, ℕ, List, [], sum, Some}
use Rattle.bus_semantics.specs.Common.{All, Plan}
use Rattle.bus_semantics.specs.declared.entries.Stamped.{Stamped}
use Rattle.cross_core_table.specs.declared.seats.CoreSeat.{CoreSeat}
use Rattle.cross_core_table.specs.Common.{OpenRound, IsSeatOf, view_of, made_of}
use Rattle.core_lanes.specs.Calling.{IsCall}
use Rattle.feed_queue.specs.declared.queue.FeedQueue.{FeedQueue}
use Rattle.feed_queue.specs.Feeds.{length_of, times}
use Rattle.feed_queue.specs.Passes.{IsPumpOf, order_of}
use Rattle.feed_queue.specs.declared.feeds.Feeds.{Feeds}
use Rattle.feed_queue.specs.Given.{lengths_of}
use Rattle.live_lanes.specs.declared.caller.Caller.{Caller}
use Rattle.live_lanes.specs.Calls.{wishes_in}
use Rattle.live_lanes.specs.Drawn.{IsDrawn, IsWhole}

-- it may begin: the environment has its seat of the round, which has made nothing, and the pump has popped nothing
pub record WillCall {F : Type 0} (lengths : List ℕ) (r : OpenRound) (q : FeedQueue F) (number : ℕ) (c : Caller) : Type 0 where
  pub seat : CoreSeat
  pub has : c.seat ≡ Some seat
  pub of : IsSeatOf r number seat
  pub fresh : (view_of seat).made ≡ []
  pub pump : IsPumpOf lengths q c.pump
  pub order : order_of c.pump ≡ []
  pub wishes_are : c.wishes ≡ sum lengths

-- calls were made of these wishes of the feeds, in the order in which the pump popped their numbers; of no feed more than it has
pub record AreCalls (p : Plan) (feeds : Feeds) (order : List ℕ) (calls : List Stamped) : Type 0 where
  pub called : All (IsCall p) calls
  pub drawn : IsDrawn feeds order (wishes_in calls)
  pub within : (f : ℕ) → times f order ≤ length_of (lengths_of feeds) f

-- calls of all wishes of the feeds were made, in the order in which the pump popped their numbers
pub record AreAllCalls (p : Plan) (feeds : Feeds) (order : List ℕ) (calls : List Stamped) : Type 0 where
  pub called : All (IsCall p) calls
  pub drawn : IsDrawn feeds order (wishes_in calls)
  pub whole : IsWhole feeds order

-- so by its seat
pub record HasCalledAll (p : Plan) (feeds : Feeds) (r : OpenRound) (number : ℕ) (c : Caller) : Type 0 where
  pub seat : CoreSeat
  pub has : c.seat ≡ Some seat
  pub of : IsSeatOf r number seat
  pub all : AreAllCalls p feeds (order_of c.pump) (made_of seat)
