-- The objects of a plan, as the code has them: what each keeps as plain data, and all in it that no call changes.
use Rattle.std.specs.Prelude.{◌≡◌, ℕ, suc, List, length, slice_get, Some}
use Rattle.bus_semantics.specs.Common.{Plan, clock}
use Rattle.data_objects.specs.Plans as groups
use Rattle.bundle_objects.specs.Plans as bundles
use Rattle.queue_objects.specs.Plans as queues
use Rattle.server_objects.specs.Plans as servers
use Rattle.area_objects.specs.Plans as areas
use Rattle.machine_objects.specs.Plans as machines
use Rattle.clock_objects.specs.Plans as clocks
use Rattle.port_objects.specs.declared.object.Object.{Object}
use Rattle.port_objects.specs.declared.object.Object.TheVariants.{Unqueued, Bundle, Queued, Server, Area, Machine, Clock}
use Rattle.port_objects.specs.Kept.{Kept, of_group, of_bundle, of_queues, of_server, of_area, of_machine, of_clock}

abbrev pub kept_of : Object → Kept
kept_of (Unqueued g) = of_group g.kept
kept_of (Bundle b) = of_bundle b.kept
kept_of (Queued g) = of_queues g.kept
kept_of (Server s) = of_server s.kept
kept_of (Area a) = of_area a
kept_of (Machine m) = of_machine m.kept
kept_of (Clock t) = of_clock t.kept

-- it is the plan's object of that number
abbrev pub IsOfPlan : Plan → (object : ℕ) → Object → Type 0
IsOfPlan p object (Unqueued g) = groups.IsOfPlan p object g.kept
IsOfPlan p object (Bundle b) = bundles.IsOfPlan p object b.kept
IsOfPlan p object (Queued g) = queues.IsOfPlan p object g.kept
IsOfPlan p object (Server s) = servers.IsOfPlan p object s.kept
IsOfPlan p object (Area a) = areas.IsOfPlan p object a
IsOfPlan p object (Machine m) = machines.IsOfPlan p object m.kept
IsOfPlan p object (Clock t) = clocks.IsOfPlan p object t.kept

-- they are the plan's objects, each at its number
pub record ArePlans (p : Plan) (objects : List Object) : Type 0 where
  pub count : length objects ≡ suc (clock p)
  pub each : (i : ℕ) (o : Object) → slice_get objects i ≡ Some o → IsOfPlan p i o
