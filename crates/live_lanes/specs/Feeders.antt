-- Feeders, before they push.
use Rattle.std.specs.Prelude.{◌≡◌, ℕ, List}
use Rattle.feed_queue.specs.declared.passes.Feeder.{Feeder}
use Rattle.feed_queue.specs.declared.queue.FeedQueue.{FeedQueue}
use Rattle.feed_queue.specs.Passes.{IsFeederOf, pushed}

module _ {F : Type 0} (lengths : List ℕ) (q : FeedQueue F) where
  -- it has a pass of the queue, and has pushed nothing
  abbrev pub WillFeed : Feeder → Type 0
  WillFeed f = IsFeederOf lengths q f × (pushed f ≡ 0)
