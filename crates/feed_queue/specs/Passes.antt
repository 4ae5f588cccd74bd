-- What a contract says of a queue, and of those who use it.
use Rattle.std.specs.Prelude.{◌≡◌, ◌≤◌, ℕ, List, [], slice_get, Some}
use Rattle.std.specs.Vec.{vec_capacity}
use Rattle.crossbeam_queue.specs.Passes.{view, IsPassOf, ruled_capacity}
use Rattle.feed_queue.specs.declared.passes.Feeder.{Feeder}
use Rattle.feed_queue.specs.declared.passes.Pump.{Pump}
use Rattle.feed_queue.specs.declared.queue.FeedQueue.{FeedQueue}
use Rattle.feed_queue.specs.declared.queue.Queued.{Queued}
use Rattle.feed_queue.specs.Feeds.{places_of}
use Rattle.feed_queue.specs.Views.{pushed_by}

-- the feed of a feeder
abbrev pub feed_of : Feeder → ℕ
feed_of f = f.feed

-- how many numbers it has pushed, which is the next one
abbrev pub pushed : Feeder → ℕ
pushed f = pushed_by (view f.pass)

-- the feeds of all that a pump has popped, in the order of the pops
abbrev pub order_of : Pump → List ℕ
order_of p = p.order.items

module _ {F : Type 0} (lengths : List ℕ) where
  -- the queue has a place for every number of feeds of these lengths, and the feeder has a pass of it
  abbrev pub IsFeederOf : FeedQueue F → Feeder → Type 0
  IsFeederOf q f = (ruled_capacity q.line ≡ places_of lengths) × IsPassOf q.line f.pass

  -- the same of a pump, which also has room for the feed of every number
  abbrev pub IsPumpOf : FeedQueue F → Pump → Type 0
  IsPumpOf q p = (ruled_capacity q.line ≡ places_of lengths) × IsPassOf q.line p.pass × (places_of lengths ≤ vec_capacity p.order)

  -- there is a feeder for each feed and the pump, and nothing is pushed or popped yet
  pub record IsNew (q : Queued F) : Type 0 where
    pub feeders : (f : ℕ) (x : Feeder) → slice_get q.feeders f ≡ Some x → IsFeederOf q.queue x × (feed_of x ≡ f) × (pushed x ≡ 0)
    pub pump : IsPumpOf q.queue q.pump
    pub order : order_of q.pump ≡ []
