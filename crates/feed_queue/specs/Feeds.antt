-- Feeds by their numbers: how long they are, how often each came, and which of their numbers wait.
use Rattle.std.specs.Prelude.{ℕ, ◌+◌, ◌==◌, max, List, length, filter, map, sum, slice_index_or}
use Rattle.feed_queue.specs.declared.views.Item.{Item}

-- the length of a feed; there are no further feeds
abbrev pub length_of : (lengths : List ℕ) → (feed : ℕ) → ℕ
length_of lengths f = slice_index_or lengths f 0

-- how often a list names a feed
abbrev pub times : (feed : ℕ) → (order : List ℕ) → ℕ
times f order = length (filter (λ g. g == f) order)

-- the numbers of a feed among items, in their order
abbrev pub numbers_of : (feed : ℕ) → (items : List Item) → List ℕ
numbers_of f items = map (λ (x : Item). x.number) (filter (λ (x : Item). x.feed == f) items)

-- how many numbers of a feed have come and gone or wait
abbrev pub pushed_of : (order : List ℕ) → (items : List Item) → (feed : ℕ) → ℕ
pushed_of order items f = times f order + length (numbers_of f items)

-- a place for every number of every feed, and at least one
abbrev pub places_of : (lengths : List ℕ) → ℕ
places_of lengths = max 1 (sum lengths)
