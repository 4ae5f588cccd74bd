-- The rule of the queue: what holds between any two steps of any number of passes, on any threads. The pump's pass is number 0, and the
-- feeders' follow it in the order of their feeds.
use Rattle.std.specs.Prelude.{◌≡◌, ◌≤◌, ℕ, suc, List, length}
use Rattle.std.specs.List.{range_with_len}
use mathlib.Core.Option.{some}
use lib.ListN.{get_elem?}
use Rattle.feed_queue.specs.declared.views.Item.{Item}
use Rattle.feed_queue.specs.declared.views.View.{View}
use Rattle.feed_queue.specs.declared.views.View.TheVariants.{Feeds, Pumps}
use Rattle.feed_queue.specs.Feeds.{length_of, times, numbers_of, pushed_of}

-- a feeder knows how much of its feed was pushed; the pump knows what was popped, and that feeds without a feeder have pushed nothing
abbrev pub Knows : (order : List ℕ) → (items : List Item) → (passes : ℕ) → (pass : ℕ) → View → Type 0
Knows order items passes pass (Feeds feed pushed) = (pass ≡ suc feed) × (pushed ≡ pushed_of order items feed)
Knows order items passes pass (Pumps feeders popped) =
    (pass ≡ 0) × (popped ≡ order) × (passes ≡ suc feeders) × ((f : ℕ) → feeders ≤ f → pushed_of order items f ≡ 0)

pub record IsFed (lengths : List ℕ) (items : List Item) (views : List View) : Type 0 where
  -- the feeds of all items popped, in the order of the pops
  pub order : List ℕ
  -- the waiting numbers of a feed follow those popped, without a gap
  pub waiting : (f : ℕ) → numbers_of f items ≡ range_with_len (times f order) (length (numbers_of f items))
  pub bounded : (f : ℕ) → pushed_of order items f ≤ length_of lengths f
  pub known : (pass : ℕ) (v : View) → get_elem? views pass ≡ some v → Knows order items (length views) pass v
