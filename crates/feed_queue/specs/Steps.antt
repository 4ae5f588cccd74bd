-- What each step tells its pass.
use Rattle.std.specs.Prelude.{◌≡◌, ◌<◌, ℕ, suc, List, [], ◌∷◌, ◌++◌, length, sum}
use Rattle.feed_queue.specs.declared.views.Item.{Item}
use Rattle.feed_queue.specs.declared.views.View.{View}
use Rattle.feed_queue.specs.declared.views.View.TheVariants.{Feeds, Pumps}
use Rattle.feed_queue.specs.Views.{popped_by}
use Rattle.feed_queue.specs.Feeds.{length_of, times, places_of}

-- the pump's pass after a feeder was made of it
abbrev pub with_feeder : View → View
with_feeder (Pumps feeders order) = Pumps (suc feeders) order
with_feeder (Feeds feed pushed) = Feeds feed pushed

-- the pass of that feeder, which has pushed nothing
abbrev pub newest_feeder : View → View
newest_feeder (Pumps feeders order) = Feeds feeders 0
newest_feeder (Feeds feed pushed) = Feeds feed pushed

-- a pass after it pushed a number, and after it popped an item
abbrev pub with_push : View → View
with_push (Feeds feed pushed) = Feeds feed (suc pushed)
with_push (Pumps feeders order) = Pumps feeders order

abbrev pub with_pop : View → Item → View
with_pop (Pumps feeders order) x = Pumps feeders (order ++ x.feed ∷ [])
with_pop (Feeds feed pushed) x = Feeds feed pushed

-- a feeder pushed its next number
abbrev pub WasPushed : View → Item → View → Type 0
WasPushed v x after = after ≡ with_push v

-- the pump popped the next number of a feed, which is below the feed's length, and fewer items were popped before than there are in all
abbrev pub WasPopped : (lengths : List ℕ) → View → Item → View → Type 0
WasPopped lengths v x after = (after ≡ with_pop v x) × (x.number ≡ times x.feed (popped_by v)) × (x.number < length_of lengths x.feed) × (length (popped_by v) < sum lengths)

-- the queue is not full
abbrev pub HasPlace : (lengths : List ℕ) → View → List Item → Type 0
HasPlace lengths v items = length items < places_of lengths
