-- What comes of turns of cores beside calls of the environment.
use Rattle.std.specs.Prelude.{◌≡◌, ℕ, suc, List, length, true}
use Rattle.bus_laws.specs.Common.{Stamped, Mapping}
use Rattle.bus_semantics.specs.Common.{History, stamps_count, Plan, IsSound}
use Rattle.port_objects.specs.declared.object.Object.{Object}
use Rattle.port_objects.specs.Objects.{ArePlans}
use Rattle.task_machine.specs.declared.instr.TaskSet.{TaskSet}
use Rattle.core_turn.specs.Cores.{CoreState}
use Rattle.core_turn.specs.Lawful.{IsLawful}
use Rattle.cross_core_table.specs.Common.{plan_in, OpenRound}
use Rattle.cross_core_table.specs.Opened.{IsOpened}
use Rattle.core_lanes.specs.After.{after}
use Rattle.core_lanes.specs.Rooms.{HaveRoom}
use Rattle.feed_queue.specs.Passes.{IsNew, order_of}
use Rattle.feed_queue.specs.declared.feeds.Feeds.{Feeds}
use Rattle.live_lanes.specs.declared.beside.Begun.{Begun}
use Rattle.live_lanes.specs.declared.beside.Beside.{Beside}
use Rattle.live_lanes.specs.declared.beside.Beside.TheVariants.{Ran, Memory}
use Rattle.live_lanes.specs.declared.beside.Made.{Made}
use Rattle.live_lanes.specs.declared.beside.Work.{Work}
use Rattle.live_lanes.specs.declared.caller.Caller.{Caller}
use Rattle.live_lanes.specs.declared.lanes.Lane.{Lane}
use Rattle.live_lanes.specs.Callers.{HasCalledAll}
use Rattle.live_lanes.specs.Calls.{called_in}
use Rattle.live_lanes.specs.Drawn.{IsDrawn, IsWhole}
use Rattle.live_lanes.specs.Lanes.{HaveGone}
use Rattle.live_lanes.specs.Places.{HasPlaces}

-- the plan is sound with a mapping, and all is lawful for a history
pub record IsGoing (p : Plan) (t : TaskSet) (cores : List CoreState) (objects : List Object) : Type 0 where
  pub mapping : Mapping
  pub history : History
  pub sound : IsSound p mapping
  pub lawful : IsLawful p mapping t cores objects history

-- after these entries, in order of stamps: whatever history the cores and the objects were lawful for, they are lawful for it and these entries.
-- The environment's wishes among these are those of the feeds, in the order that the pump popped; each feed came whole, in its order
pub record HasServed (p : Plan) (t : TaskSet) (feeds : Feeds) (cores : List CoreState) (objects : List Object) (m : Made) : Type 0 where
  pub count : length m.work.cores.items ≡ length cores
  pub room : HaveRoom m.work.cores.items
  pub planned : ArePlans p m.work.objects.items
  pub goes : (x : Mapping) (h : History) → IsSound p x → IsLawful p x t cores objects h → IsLawful p x t m.work.cores.items m.work.objects.items (after m.entries.items h)
  pub stamps : stamps_count m.entries.items ≡ true
  pub drawn : IsDrawn feeds (order_of m.pump) (called_in m.entries.items)
  pub whole : IsWhole feeds (order_of m.pump)

-- they ran, or there was no memory, and nothing has changed
abbrev pub RunBeside : Plan → TaskSet → Feeds → Work → Beside → Type 0
RunBeside p t feeds old (Ran made) = HasServed p t feeds old.cores.items old.objects.items made
RunBeside p t feeds old (Memory same) = (same.cores.items ≡ old.cores.items) × (same.objects.items ≡ old.objects.items)

-- ---- how they are run

-- a round over these objects is open, each core has a seat and the environment has one more, the queue is new, and nothing was made
pub record HasBegun {F : Type 0} (lengths : List ℕ) (p : Plan) (objects : List Object) (b : Begun F) : Type 0 where
  pub opened : IsOpened p objects (suc (length b.cores.items)) 65536 b.round b.seats.items
  pub queue : IsNew lengths b.queued
  pub places : HasPlaces (length b.cores.items) b.places

-- the cores have left, and the environment has made all its calls, in a round with a seat for each and one more
pub record IsDone (p : Plan) (t : TaskSet) (feeds : Feeds) (r : OpenRound) (old : List CoreState) (lanes : List Lane) (c : Caller) : Type 0 where
  pub plan : plan_in r.opening ≡ p
  pub seats : r.cores ≡ suc (length old)
  pub gone : HaveGone p t r old lanes
  pub called : HasCalledAll p feeds r (length old) c
