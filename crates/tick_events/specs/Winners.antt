-- A tree of winners over as many countdowns as it has places: node 1 is the root, 2 j and 2 j + 1 are the children of
-- node j, and from as many nodes as there are countdowns on each is the leaf of a countdown.
use Rattle.std.specs.Prelude.{◌≡◌, ℕ, ◌+◌, ◌-◌, ◌*◌, ◌/◌, ◌<◌, ◌≤◌, ◌⊎◌, List, length, get_or, set, nat_lt, cond, slice_get, All}
use Rattle.std.specs.Option.{option_map_or}
use Rattle.tick_events.specs.Countdowns.{Countdown}

-- what is left of the countdown at a place
abbrev pub left_at : List Countdown → (place : ℕ) → ℕ
left_at cs place = option_map_or (λ (c : Countdown). c.left) (slice_get cs place) 0

-- the place of the countdown that won at a node
abbrev pub winner_at : (best : List ℕ) → (node : ℕ) → ℕ
winner_at best node = cond (nat_lt node (length best)) (get_or best node 0) (node - length best)

-- of two places the one whose countdown has less left
abbrev pub better : List Countdown → (a b : ℕ) → ℕ
better cs a b = cond (nat_lt (left_at cs b) (left_at cs a)) b a

-- with the winner of an inner node made that of its two children which has less left
abbrev pub settled : List Countdown → (best : List ℕ) → (node : ℕ) → List ℕ
settled cs best node = set best node (better cs (winner_at best (2 * node)) (winner_at best (2 * node + 1)))

-- each winner is the place of a countdown
abbrev pub ArePlaces : (best : List ℕ) → Type 0
ArePlaces best = All (λ place. place < length best) best

-- the winner of a node is that of one of its children, and has no more left than either
pub record IsOrdered (cs : List Countdown) (best : List ℕ) (node : ℕ) : Type 0 where
  pub child : (winner_at best node ≡ winner_at best (2 * node)) ⊎ (winner_at best node ≡ winner_at best (2 * node + 1))
  pub left : left_at cs (winner_at best node) ≤ left_at cs (winner_at best (2 * node))
  pub right : left_at cs (winner_at best node) ≤ left_at cs (winner_at best (2 * node + 1))

pub record IsTree (cs : List Countdown) (best : List ℕ) : Type 0 where
  pub count : length best ≡ length cs
  pub places : ArePlaces best
  pub ordered : (node : ℕ) → 0 < node → node < length best → IsOrdered cs best node

-- a node is on the way from another to the root
pub data IsAbove (node : ℕ) : (from : ℕ) → Type 0 where
  itself : (from : ℕ) → node ≡ from → IsAbove node from
  beyond : (from : ℕ) → 0 < from → IsAbove node (from / 2) → IsAbove node from

-- as a tree, but for nodes on the way from one node to the root
pub record IsTreeBut (cs : List Countdown) (best : List ℕ) (from : ℕ) : Type 0 where
  pub count : length best ≡ length cs
  pub places : ArePlaces best
  pub ordered : (node : ℕ) → 0 < node → node < length best → IsOrdered cs best node ⊎ IsAbove node from
