-- What comes of turns of cores at the same time.
use Rattle.std.specs.Prelude.{◌≡◌, ◌≤◌, ◌*◌, ℕ, List, [], length, slice_get, true, Some}
use Rattle.bus_semantics.specs.Common.{vec_capacity, stamps_count, Plan, History, IsSound}
use Rattle.bus_laws.specs.Common.{Stamped, Mapping}
use Rattle.port_objects.specs.declared.object.Object.{Object}
use Rattle.port_objects.specs.Objects.{ArePlans}
use Rattle.task_machine.specs.declared.instr.TaskSet.{TaskSet}
use Rattle.core_turn.specs.Cores.{CoreState}
use Rattle.core_turn.specs.Lawful.{IsLawful}
use Rattle.core_turn.specs.Ready.{IsReady}
use Rattle.cross_core_table.specs.Opened.{IsOpened}
use Rattle.core_lanes.specs.After.{after, are_within}
use Rattle.core_lanes.specs.declared.together.Begun.{Begun}
use Rattle.core_lanes.specs.declared.together.Changing.{Changing}
use Rattle.core_lanes.specs.declared.together.Places.{Places}
use Rattle.core_lanes.specs.declared.together.Together.{Together}
use Rattle.core_lanes.specs.declared.together.Together.TheVariants.{Ran, Memory}
use Rattle.core_lanes.specs.Rooms.{HaveRoom}
use Rattle.core_lanes.specs.Guiding.{AreFitting, AreRooms}

abbrev pub AllReady : Plan → Mapping → TaskSet → List CoreState → Type 0
AllReady p m t cores = (i : ℕ) (c : CoreState) → slice_get cores i ≡ Some c → IsReady p m t c

-- after these entries, in order of stamps: whatever history the cores and the objects were lawful for, they are lawful for it and these entries, of
-- which each core made at most 1,024
pub record HasRun (p : Plan) (t : TaskSet) (cores now : List CoreState) (objects later : List Object) (entries : List Stamped) : Type 0 where
  pub count : length now ≡ length cores
  pub room : HaveRoom now
  pub planned : ArePlans p later
  pub goes : (m : Mapping) (h : History) → IsSound p m → IsLawful p m t cores objects h → IsLawful p m t now later (after entries h)
  pub within : are_within entries ≡ true
  pub stamps : stamps_count entries ≡ true
  pub few : length entries ≤ length cores * 1024

-- they ran, or there was no memory, and nothing has changed
abbrev pub RunTogether : Plan → TaskSet → Changing → Together → Type 0
RunTogether p t old (Ran new entries) = HasRun p t old.cores.items new.cores.items old.objects.items new.objects.items entries.items × AreFitting new.cores.items new.awake.items
RunTogether p t old (Memory same) = (same.cores.items ≡ old.cores.items) × (same.objects.items ≡ old.objects.items) × (same.awake ≡ old.awake)

-- ---- how they are run

-- room for so many cores
pub record HasPlaces (count : ℕ) (x : Places) : Type 0 where
  pub rooms : AreRooms count x.rooms.items
  pub lanes : (x.lanes.items ≡ []) × (count ≤ vec_capacity x.lanes)
  pub cores : (x.cores.items ≡ []) × (count ≤ vec_capacity x.cores)
  pub awake : (x.awake.items ≡ []) × (count ≤ vec_capacity x.awake)
  pub seats : (x.seats.items ≡ []) × (count ≤ vec_capacity x.seats)

-- a round over these objects is open, each core has its seat, and no core has made a turn
pub record HasBegun (p : Plan) (objects : List Object) (b : Begun) : Type 0 where
  pub opened : IsOpened p objects (length b.cores.items) 1024 b.round b.seats.items
  pub places : HasPlaces (length b.cores.items) b.places
