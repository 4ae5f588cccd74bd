-- Cores in a round, each with its seat in a lane of its own: before their turns, and after them.
use Rattle.std.specs.Prelude.{◌≡◌, ℕ, List, [], ◌∷◌, length, map, slice_get, Option, Some, None}
use Rattle.bus_semantics.specs.declared.script.Mapping.{Mapping}
use Rattle.bus_semantics.specs.Plan.{Plan}
use Rattle.task_machine.specs.declared.instr.TaskSet.{TaskSet}
use Rattle.core_turn.specs.Cores.{CoreState}
use Rattle.core_turn.specs.Ready.{IsReady}
use Rattle.cross_core_table.specs.declared.seats.CoreSeat.{CoreSeat}
use Rattle.cross_core_table.specs.Common.{OpenRound, IsSeatOf, view_of, made_of}
use Rattle.core_lanes.specs.Rooms.{HasRoom}
use Rattle.core_lanes.specs.Taking.{TakesTurns}
use Rattle.live_lanes.specs.declared.lanes.Lane.{Lane}

-- ---- lanes

abbrev pub core_in : Lane → CoreState
core_in l = l.core

abbrev pub seat_in : Lane → Option CoreSeat
seat_in l = l.seat

abbrev pub with_seat : Option CoreSeat → List CoreSeat → List CoreSeat
with_seat None seats = seats
with_seat (Some s) seats = s ∷ seats

-- the seats of those lanes that have one
abbrev pub seats_in : List Lane → List CoreSeat
seats_in [] = []
seats_in (l ∷ lanes) = with_seat l.seat (seats_in lanes)

-- ---- a core in a round

-- it may begin its turns: it has its seat of the round, which has made nothing, and it has room for an entry
pub record IsSeated (p : Plan) (t : TaskSet) (r : OpenRound) (number : ℕ) (l : Lane) : Type 0 where
  pub seat : CoreSeat
  pub has : l.seat ≡ Some seat
  pub of : IsSeatOf r number seat
  pub fresh : (view_of seat).made ≡ []
  pub room : HasRoom l.core
  pub mapping : Mapping
  pub ready : IsReady p mapping t l.core

-- it has left: what its seat has is what its turns made
pub record HasGone (p : Plan) (t : TaskSet) (r : OpenRound) (number : ℕ) (old : CoreState) (new : Lane) : Type 0 where
  pub seat : CoreSeat
  pub has : new.seat ≡ Some seat
  pub of : IsSeatOf r number seat
  pub room : HasRoom new.core
  pub turns : TakesTurns p t old (made_of seat) new.core

-- ---- the cores of a round, each at its number

pub record HaveGone (p : Plan) (t : TaskSet) (r : OpenRound) (old : List CoreState) (new : List Lane) : Type 0 where
  pub count : length new ≡ length old
  pub each : (i : ℕ) (c : CoreState) (l : Lane) → slice_get old i ≡ Some c → slice_get new i ≡ Some l → HasGone p t r i c l
