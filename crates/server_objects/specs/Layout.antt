-- What of a plan belongs to a server (SWS_RTE: Rte_Call, OperationInvokedEvent, AsynchronousServerCallReturnsEvent).
use Rattle.std.specs.Prelude.{◌≡◌, ◌<◌, ◌≤◌, ◌-◌, ◌^◌, ℕ, List, length, filter, Bool, false, Some, None, unwrap_or}
use Rattle.bus_semantics.specs.Common.{same_number, Plan, Runnable, look, server_of, kind_of, runnable_of_event, positions, first_server, first_area}
use Rattle.bus_semantics.specs.declared.plan.ServerPlan.{ServerPlan}
use Rattle.bus_semantics.specs.declared.plan.EventKind.{EventKind}
use Rattle.bus_semantics.specs.declared.plan.EventKind.TheVariants.{Invoked, Returns}
use Rattle.object_kinds.specs.Layout.{place}

-- ---- the server

-- the server that an object is
abbrev pub server_in : Plan → (object : ℕ) → ℕ
server_in p object = object - first_server p

-- its OperationInvokedEvent
abbrev pub event_in : Plan → (server : ℕ) → ℕ
event_in p s = look p.servers s (λ (v : ServerPlan). v.event) 0

-- the runnable that serves it
abbrev pub runnable_in : Plan → (server : ℕ) → ℕ
runnable_in p s = look p.servers s (λ (v : ServerPlan). v.runnable) 0

-- ---- its points and their return events

abbrev pub is_joined_to : Plan → (server : ℕ) → (point : ℕ) → Bool
is_joined_to p s q = same_number (server_of p q) (Some s)

-- the points that call it, in rising order
abbrev pub points_of : Plan → (server : ℕ) → List ℕ
points_of p s = filter (is_joined_to p s) (positions (length p.points))

-- an AsynchronousServerCallReturnsEvent of one of its points
abbrev pub returns_for : Plan → (server : ℕ) → EventKind → Bool
returns_for p s (Returns q) = is_joined_to p s q
returns_for p s _ = false

-- the point of such an event
abbrev pub point_in : EventKind → ℕ
point_in (Returns q) = q
point_in _ = 0

-- and its place among the points
abbrev pub awaited_by : Plan → (server : ℕ) → (event : ℕ) → ℕ
awaited_by p s e = unwrap_or (place (point_in (kind_of p e)) (points_of p s)) 0

-- ---- servers of plans

-- the object is one of the plan's servers: one event invokes it, one runnable serves it, and that event alone starts that runnable; of the
-- plan's points there are not too many to count
pub record IsServer (p : Plan) (object : ℕ) : Type 0 where
  pub from : first_server p ≤ object
  pub below : object < first_area p
  pub few_points : length p.points < 2 ^ 32
  pub invoked : kind_of p (event_in p (server_in p object)) ≡ Invoked (server_in p object)
  pub one_event : (e : ℕ) → kind_of p e ≡ Invoked (server_in p object) → e ≡ event_in p (server_in p object)
  pub started : runnable_of_event p (event_in p (server_in p object)) ≡ Some (runnable_in p (server_in p object))
  pub alone : (e : ℕ) → runnable_of_event p e ≡ Some (runnable_in p (server_in p object)) → e ≡ event_in p (server_in p object)
  pub serves : look p.runnables (runnable_in p (server_in p object)) (λ (r : Runnable). r.server) None ≡ Some (server_in p object)
  pub one_runnable : (r : ℕ) → look p.runnables r (λ (v : Runnable). v.server) None ≡ Some (server_in p object) → r ≡ runnable_in p (server_in p object)
