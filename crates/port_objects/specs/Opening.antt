-- What the objects of a plan keep before anything has happened.
use Rattle.std.specs.Prelude.{◌≡◌, ℕ, ◌+◌, List, [], ◌∷◌, ◌++◌, map, length, slice_get, Bool, true, false, Some}
use Rattle.bus_semantics.specs.Common.{Plan, positions, first_server}
use Rattle.object_kinds.specs.Layout.{group_at}
use Rattle.data_objects.specs.Kept as groups
use Rattle.bundle_objects.specs.Kept as bundles
use Rattle.queue_objects.specs.Kept as queues
use Rattle.server_objects.specs.Kept as servers
use Rattle.area_objects.specs.Kept as areas
use Rattle.machine_objects.specs.Kept as machines
use Rattle.clock_objects.specs.Kept as clocks
use Rattle.port_objects.specs.declared.object.Object.{Object}
use Rattle.port_objects.specs.Kept.{Kept, of_group, of_bundle, of_queues, of_server, of_area, of_machine, of_clock}
use Rattle.port_objects.specs.Objects.{kept_of, IsOfPlan, ArePlans}
use Rattle.port_objects.specs.Plans.{has_queues, is_listed}
use Rattle.port_objects.specs.Standing.{Stands}

-- a group, by the kind of its elements
abbrev pub opening_of_kind : Plan → (group : ℕ) → (queued : Bool) → Kept
opening_of_kind p g true = of_queues (queues.opening p g)
opening_of_kind p g false = of_group (groups.opening p g)

-- a bundle that coherent lists touch, or a group by itself
abbrev pub opening_where : Plan → (bundle : ℕ) → (listed : Bool) → Kept
opening_where p b true = of_bundle (bundles.opening p b)
opening_where p b false = opening_of_kind p (group_at p b) (has_queues p (group_at p b))

abbrev pub opening_of_bundle : Plan → (bundle : ℕ) → Kept
opening_of_bundle p b = opening_where p b (is_listed p b)

-- the objects of a plan that stand before those of a kind, and the kind's: its bundles in order, then its servers, areas, machines and the clock
abbrev pub before_servers : Plan → List Kept
before_servers p = map (opening_of_bundle p) (positions (length p.bundles))

abbrev pub opening_of_server : Plan → (server : ℕ) → Kept
opening_of_server p s = of_server (servers.opening p (first_server p + s))

abbrev pub before_areas : Plan → List Kept
before_areas p = before_servers p ++ map (opening_of_server p) (positions (length p.servers))

abbrev pub before_machines : Plan → List Kept
before_machines p = before_areas p ++ map (λ x. of_area areas.opening) (positions (length p.areas))

abbrev pub opening_of_machine : Plan → (machine : ℕ) → Kept
opening_of_machine p m = of_machine (machines.opening p m)

abbrev pub before_clock : Plan → List Kept
before_clock p = before_machines p ++ map (opening_of_machine p) (positions (length p.machines))

abbrev pub opening : Plan → List Kept
opening p = before_clock p ++ of_clock (clocks.opening p) ∷ []

-- the first objects of a plan: what each keeps, and that each is the plan's and stands for no entry
pub record AreFirst (p : Plan) (kept : List Kept) (objects : List Object) : Type 0 where
  pub keep : map kept_of objects ≡ kept
  pub planned : (i : ℕ) (o : Object) → slice_get objects i ≡ Some o → IsOfPlan p i o
  pub standing : (i : ℕ) (o : Object) → slice_get objects i ≡ Some o → Stands p i (kept_of o) []

-- all objects of a plan
pub record AreMade (p : Plan) (objects : List Object) : Type 0 where
  pub kept : map kept_of objects ≡ opening p
  pub planned : ArePlans p objects
  pub standing : (i : ℕ) (o : Object) → slice_get objects i ≡ Some o → Stands p i (kept_of o) []
