-- How the values of the queues lie in rings and blocks.
use Rattle.std.specs.Prelude.{◌≡◌, ◌≢◌, ℕ, ◌+◌, ◌≤◌, List, [], length, map, Bool, false, slice_index_or}
use Rattle.std.specs.List.{All, count_by, sum_by, range_with_len}
use Rattle.circular_buffer.specs.Buffer.{buffer}
use Rattle.rte_value.specs.declared.value.Value.{Value}
use Rattle.rte_value.specs.ShortValues.{empty_value, one_word}
use Rattle.queued_ports.specs.KeptBlocks as pool
use Rattle.queued_ports.specs.declared.payload.Payload.{Payload}
use Rattle.queued_ports.specs.declared.payload.Payload.TheVariants.{One, Many}
use Rattle.queued_ports.specs.declared.lanes.Lane.{Lane}
use Rattle.queued_ports.specs.Kept.{Queue}

-- the value that a payload stands for, over what the blocks hold
abbrev pub value_of : List Value → Payload → Value
value_of values (One word) = one_word word
value_of values (Many block) = slice_index_or values block empty_value

-- the queue of which a lane is made
abbrev pub queue_of : List Value → Lane → Queue
queue_of values lane = record { queue_length = lane.ring.capacity; held = map (value_of values) lane.ring.items; lost = lane.lost }

-- an empty lane
abbrev pub empty_lane : (length : ℕ) → Lane
empty_lane n = record { ring = buffer [] n; lost = false }

-- how the queues are seen: how many words a value has, and the queue of each receiver
pub record Stored : Type 0 where
  pub words : ℕ
  pub queues : List Queue

-- a payload lies in a block of this kind
abbrev pub lies_in : (kind : ℕ → Bool) → Payload → Bool
lies_in kind (One word) = false
lies_in kind (Many block) = kind block

-- how many values of a lane lie in blocks of this kind
abbrev pub blocks_in : (kind : ℕ → Bool) → Lane → ℕ
blocks_in kind lane = count_by (lies_in kind) lane.ring.items

-- No ring holds more than it may. The blocks that are not free are exactly those in the rings, each once; if values are longer
-- than a word, there are as many blocks as the rings have places.
pub record AreLaid (words : ℕ) (blocks : pool.Kept) (lanes : List Lane) : Type 0 where
  pub fits : All (λ (lane : Lane). length lane.ring.items ≤ lane.ring.capacity) lanes
  pub room : words ≢ 1 → length blocks.values ≡ sum_by (λ (lane : Lane). lane.ring.capacity) lanes
  pub each_once : (kind : ℕ → Bool) → count_by kind blocks.free + sum_by (blocks_in kind) lanes ≡ count_by kind (range_with_len 0 (length blocks.values))
