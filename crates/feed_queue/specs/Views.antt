-- What the view of a pass says of who has it.
use Rattle.std.specs.Prelude.{◌≡◌, ℕ, List, []}
use Rattle.feed_queue.specs.declared.views.View.{View}
use Rattle.feed_queue.specs.declared.views.View.TheVariants.{Feeds, Pumps}

-- how many numbers were pushed by it
abbrev pub pushed_by : View → ℕ
pushed_by (Feeds feed pushed) = pushed
pushed_by (Pumps feeders order) = 0

-- the feeds of all that it popped, in the order of the pops
abbrev pub popped_by : View → List ℕ
popped_by (Feeds feed pushed) = []
popped_by (Pumps feeders order) = order

-- how many feeders were made of it
abbrev pub feeders_of : View → ℕ
feeders_of (Feeds feed pushed) = 0
feeders_of (Pumps feeders order) = feeders

-- it is the pass of the feeder of this feed
abbrev pub IsFeeding : (feed : ℕ) → View → Type 0
IsFeeding f v = v ≡ Feeds f (pushed_by v)

-- it is the pass of a pump that popped items of these feeds
abbrev pub IsPumping : (order : List ℕ) → View → Type 0
IsPumping order v = v ≡ Pumps (feeders_of v) order
