-- The memory of a round, how its seats are given, and what its opening gives.
use Rattle.std.specs.Prelude.{◌≡◌, ◌≤◌, ◌*◌, ℕ, List, [], length, replicate, slice_get, Some, Vec}
use Rattle.bus_semantics.specs.Common.{vec_capacity, Global, Plan}
use Rattle.bus_semantics.specs.declared.entries.Stamped.{Stamped}
use Rattle.port_objects.specs.declared.object.Object.{Object}
use Rattle.atomic_table.specs.Seated.{TableId}
use Rattle.cross_core_table.specs.declared.space.Space.{Space}
use Rattle.cross_core_table.specs.declared.views.Opening.{Opening}
use Rattle.cross_core_table.specs.declared.views.View.{View}
use Rattle.cross_core_table.specs.declared.seats.CoreSeat.{CoreSeat}
use Rattle.cross_core_table.specs.Logs.{plan_in}
use Rattle.cross_core_table.specs.Rules.{place_of}
use Rattle.cross_core_table.specs.OpenRounds.{OpenRound}
use Rattle.cross_core_table.specs.Seats.{IsSeatOf, AreSeatsOf, view_of}

-- a seat that has done nothing yet
pub record IsFresh (v : View) : Type 0 where
  pub made : v.made ≡ []
  pub looks : v.looks ≡ 0
  pub tries : v.tries ≡ 0

-- the round is of the plan and of these objects, each core has its seat, and none has done anything
pub record IsOpened (p : Plan) (objects : List Object) (cores room : ℕ) (r : OpenRound) (seats : List CoreSeat) : Type 0 where
  pub plan : plan_in r.opening ≡ p
  pub slots : r.opening.objects.value.items ≡ objects
  pub limit : r.opening.room ≡ room
  pub number : r.cores ≡ cores
  pub seated : AreSeatsOf r seats
  pub fresh : (i : ℕ) (s : CoreSeat) → slice_get seats i ≡ Some s → IsFresh (view_of s)

-- ---- the memory of a round, and how its seats are given

-- room for so many entries of each core
pub record AreRooms (cores room : ℕ) (rooms : List (Vec Stamped Global)) : Type 0 where
  pub count : length rooms ≡ cores
  pub each : (i : ℕ) (v : Vec Stamped Global) → slice_get rooms i ≡ Some v → (v.items ≡ []) × (room ≤ vec_capacity v)

pub record HasSpace (objects cores room : ℕ) (s : Space) : Type 0 where
  pub words : s.words.items ≡ replicate (place_of objects) 0
  pub rooms : AreRooms cores room s.rooms.items
  pub for_parts : cores ≤ vec_capacity s.rooms
  pub seats : (s.seats.items ≡ []) × (cores ≤ vec_capacity s.seats)
  pub entries : (s.entries.items ≡ []) × (cores * room ≤ vec_capacity s.entries)
  pub returned : (s.returned.items ≡ []) × (objects ≤ vec_capacity s.returned)

-- so many seats are given, and none has done anything
pub record AreGiven (t : TableId) (k : Opening) (n : ℕ) (seats : List CoreSeat) : Type 0 where
  pub count : length seats ≡ n
  pub each : (i : ℕ) (s : CoreSeat) → slice_get seats i ≡ Some s → IsSeatOf (record { table = t; opening = k; cores = n }) i s
  pub fresh : (i : ℕ) (s : CoreSeat) → slice_get seats i ≡ Some s → IsFresh (view_of s)
