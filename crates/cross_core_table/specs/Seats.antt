-- A round, its seats, and a seat at its bench.
use Rattle.std.specs.Prelude.{◌≡◌, ◌≤◌, ℕ, zero, suc, List, [], length, slice_get, Some}
use Rattle.std.specs.Vec.{vec_capacity}
use Rattle.atomic_table.specs.Seated.{TableId}
use Rattle.bus_semantics.specs.declared.entries.Stamped.{Stamped}
use Rattle.cross_core_table.specs.declared.views.Opening.{Opening}
use Rattle.cross_core_table.specs.declared.views.View.{View}
use Rattle.cross_core_table.specs.declared.seats.CoreSeat.{CoreSeat}
use Rattle.cross_core_table.specs.OpenRounds.{OpenRound}
use Rattle.cross_core_table.specs.Places.{IsIdle}

-- ---- seats

-- a seat of the core at this table, which holds nothing, with all that it made and room for the rest
pub record IsSeatAt (t : TableId) (k : Opening) (core : ℕ) (s : CoreSeat) : Type 0 where
  pub table : s.place.table_id ≡ t
  pub idle : IsIdle k core s.place.me
  pub number : s.core ≡ core
  pub made : s.place.me.0.made ≡ s.made.items
  pub within : length s.made.items ≤ k.room
  pub space : k.room ≤ vec_capacity s.made

-- how many seats the seat of a core has given, itself among them: the first all, and every other none
abbrev pub given_by : OpenRound → (core : ℕ) → ℕ
given_by r zero = r.cores
given_by r (suc core) = 0

-- a seat of the core in this round
pub record IsSeatOf (r : OpenRound) (core : ℕ) (s : CoreSeat) : Type 0 where
  pub at : IsSeatAt r.table r.opening core s
  pub given : s.place.me.0.given ≡ given_by r core
  pub joined : s.place.me.0.joined ≡ []

-- what a seat knows
abbrev pub view_of : CoreSeat → View
view_of s = s.place.me.0

-- its core, by number
abbrev pub core_of : CoreSeat → ℕ
core_of s = s.core

-- all that its core made, the oldest first
abbrev pub made_of : CoreSeat → List Stamped
made_of s = s.made.items

-- these are all the seats of a round, in the order of their cores
pub record AreSeatsOf (r : OpenRound) (seats : List CoreSeat) : Type 0 where
  pub count : length seats ≡ r.cores
  pub each : (i : ℕ) (s : CoreSeat) → slice_get seats i ≡ Some s → IsSeatOf r i s
