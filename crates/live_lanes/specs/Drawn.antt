-- Which wishes come of feeds, by the order in which the feeds came. Feeds are this project's own.
use Rattle.std.specs.Prelude.{◌≡◌, ◌≤◌, ℕ, List, length, map, take, sum, true, Some, slice_get}
use Rattle.bus_semantics.specs.Common.{All, wish_fits, Plan, Wanted, wanted_of}
use Rattle.bus_semantics.specs.declared.entries.Actor.TheVariants.{Env}
use Rattle.feed_queue.specs.Feeds.{times}
use Rattle.feed_queue.specs.declared.feeds.Feeds.{Feeds}
use Rattle.feed_queue.specs.Given.{lengths_of}
use Rattle.feed_queue.specs.Gifts.{wishes_at}

-- what a feed wishes, in its order
abbrev pub wanted_at : Feeds → (feed : ℕ) → List Wanted
wanted_at feeds f = map wanted_of (wishes_at feeds.wishes.items f)

-- the k-th of these, from 0, is the wish of the feed that the order names there, at the number of earlier places that name the same feed
pub record IsDrawn (feeds : Feeds) (order : List ℕ) (drawn : List Wanted) : Type 0 where
  pub count : length drawn ≡ length order
  pub each : (k f : ℕ) → slice_get order k ≡ Some f → slice_get drawn k ≡ slice_get (wanted_at feeds f) (times f (take k order))

-- the order names each feed as often as it has wishes
abbrev pub IsWhole : Feeds → (order : List ℕ) → Type 0
IsWhole feeds order = (f : ℕ) → times f order ≡ length (wanted_at feeds f)

-- four feeds, 65,536 wishes in all at most, each of which the environment may have
pub record AreWished (p : Plan) (feeds : Feeds) : Type 0 where
  pub four : length feeds.wishes.items ≡ 4
  pub few : sum (lengths_of feeds) ≤ 65536
  pub fit : (f : ℕ) → All (λ w. wish_fits p Env w ≡ true) (wanted_at feeds f)
