-- The queue of a server: a ring of points, and none for a direct server.
use Rattle.std.specs.Prelude.{ℕ, List, [], ◌∷◌, ◌++◌, length, drop, nat_lt, Bool, true, if◌then◌else◌, Option, Some, None}
use Rattle.circular_buffer.specs.Buffer.{Buffer, buffer}

-- how many requests may wait; none for a direct server
abbrev pub length_of : Option (Buffer ℕ) → Option ℕ
length_of None = None
length_of (Some b) = Some b.capacity

-- the points whose requests wait, the oldest first
abbrev pub waiting_in : Option (Buffer ℕ) → List ℕ
waiting_in None = []
waiting_in (Some b) = b.items

abbrev pub has_place_in : Option (Buffer ℕ) → Bool
has_place_in None = true
has_place_in (Some b) = nat_lt (length b.items) b.capacity

abbrev pub after_queueing : (point : ℕ) → Option (Buffer ℕ) → Option (Buffer ℕ)
after_queueing p None = None
after_queueing p (Some b) = Some (if nat_lt (length b.items) b.capacity then buffer (b.items ++ p ∷ []) b.capacity else b)

abbrev pub after_first : Option (Buffer ℕ) → Option (Buffer ℕ)
after_first None = None
after_first (Some b) = Some (buffer (drop 1 b.items) b.capacity)
