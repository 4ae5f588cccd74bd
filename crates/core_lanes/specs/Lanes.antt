-- Cores in a round, each with its seat in a lane of its own: before their turns, and after them.
use Rattle.std.specs.Prelude.{◌≡◌, ℕ, List, [], ◌∷◌, length, slice_get, Option, Some, None}
use Rattle.bus_semantics.specs.declared.script.Mapping.{Mapping}
use Rattle.bus_semantics.specs.Plan.{Plan}
use Rattle.task_machine.specs.declared.instr.TaskSet.{TaskSet}
use Rattle.core_turn.specs.Cores.{CoreState}
use Rattle.core_turn.specs.Ready.{IsReady}
use Rattle.cross_core_table.specs.declared.seats.CoreSeat.{CoreSeat}
use Rattle.cross_core_table.specs.Common.{OpenRound, IsFresh, IsSeatOf, view_of, made_of}
use Rattle.core_lanes.specs.Taking.{TakesTurns}
use Rattle.core_lanes.specs.declared.lanes.Lane.{Lane}
use Rattle.core_lanes.specs.Rooms.{HasRoom}
use Rattle.core_lanes.specs.Leaving.{nothing_done, IsTrueOf, MayLeave}

-- ---- lanes

abbrev pub lane_of : CoreState → Option CoreSeat → Lane
lane_of c s = record { core = c; seat = s; stay = nothing_done }

-- a lane for each core, with the seat at the core's place
abbrev pub lanes_of : List CoreState → List CoreSeat → List Lane
lanes_of [] seats = []
lanes_of (c ∷ cores) [] = lane_of c None ∷ lanes_of cores []
lanes_of (c ∷ cores) (s ∷ seats) = lane_of c (Some s) ∷ lanes_of cores seats

abbrev pub core_in : Lane → CoreState
core_in l = l.core

abbrev pub with_seat : Option CoreSeat → List CoreSeat → List CoreSeat
with_seat None seats = seats
with_seat (Some s) seats = s ∷ seats

-- the seats of those lanes that have one
abbrev pub seats_in : List Lane → List CoreSeat
seats_in [] = []
seats_in (l ∷ lanes) = with_seat l.seat (seats_in lanes)

-- ---- a core in a round

-- it may begin its turns: it has its seat of the round, which has done nothing, and it has room for an entry
pub record IsSeated (p : Plan) (t : TaskSet) (r : OpenRound) (number : ℕ) (l : Lane) : Type 0 where
  pub seat : CoreSeat
  pub has : l.seat ≡ Some seat
  pub of : IsSeatOf r number seat
  pub fresh : IsFresh (view_of seat)
  pub room : HasRoom l.core
  pub mapping : Mapping
  pub ready : IsReady p mapping t l.core

-- it has left, as it may by what it did: what its seat has is what its turns made
pub record HasGone (p : Plan) (t : TaskSet) (r : OpenRound) (number : ℕ) (old new : Lane) : Type 0 where
  pub seat : CoreSeat
  pub has : new.seat ≡ Some seat
  pub of : IsSeatOf r number seat
  pub room : HasRoom new.core
  pub turns : TakesTurns p t old.core (made_of seat) new.core
  pub did : IsTrueOf p new.core.slots new.stay (view_of seat)
  pub left : MayLeave new.stay

-- ---- the cores of a round, each at its number

abbrev pub AreSeated : Plan → TaskSet → OpenRound → List Lane → Type 0
AreSeated p t r lanes = (i : ℕ) (l : Lane) → slice_get lanes i ≡ Some l → IsSeated p t r i l

pub record HaveGone (p : Plan) (t : TaskSet) (r : OpenRound) (old new : List Lane) : Type 0 where
  pub count : length new ≡ length old
  pub each : (i : ℕ) (l k : Lane) → slice_get old i ≡ Some l → slice_get new i ≡ Some k → HasGone p t r i l k
