-- A server as it is of a plan: all in it that no call changes.
use Rattle.std.specs.Prelude.{◌≡◌, ◌<◌, ◌^◌, ℕ, length, map, Some}
use Rattle.bus_semantics.specs.Plan.{Plan, queue_of, server_of}
use Rattle.object_kinds.specs.Layout.{events_of}
use Rattle.server_objects.specs.Layout.{server_in, event_in, points_of, returns_for, awaited_by, IsServer}
use Rattle.server_objects.specs.Kept.{Kept}

pub record IsOfPlan (p : Plan) (object : ℕ) (k : Kept) : Type 0 where
  pub is_server : IsServer p object
  pub points : k.points ≡ points_of p (server_in p object)
  pub event : k.event ≡ event_in p (server_in p object)
  pub returns : k.returns ≡ events_of p (returns_for p (server_in p object))
  pub awaited : k.awaited ≡ map (awaited_by p (server_in p object)) k.returns
  pub queue : k.served.queue ≡ queue_of p (server_in p object)
  pub many : length k.served.points ≡ length k.points

-- each point that is joined is joined to a server of the plan, and there are not too many points to count
pub record AreJoined (p : Plan) : Type 0 where
  pub within : (point server : ℕ) → server_of p point ≡ Some server → server < length p.servers
  pub few : length p.points < 2 ^ 32
