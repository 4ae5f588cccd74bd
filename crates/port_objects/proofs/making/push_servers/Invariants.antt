use Rattle.std.proofs.Common.{◌≡◌, ◌≤◌, ◌++◌, ℕ, length, map}
use Rattle.bus_semantics.specs.Plan.{plan_of, positions}
use Rattle.object_kinds.specs.Common.{events_of, listed_at}
use Rattle.server_objects.specs.Layout.{points_of, returns_for}
use Rattle.port_objects.specs.Opening.{before_servers, opening_of_server, AreFirst}
use Rattle.port_objects.proofs.making.push_servers.Given as goal

abbrev pub invariant-loop-server : goal.invariant-loop-server
invariant-loop-server l = record {
  many : length l.points.items ≡ length l.p.servers;
  as_many : length l.returns.items ≡ length l.p.servers;
  points_left : (server : ℕ) → l.server ≤ server → listed_at l.points.items server ≡ points_of (plan_of l.p) server;
  returns_left : (server : ℕ) → l.server ≤ server → listed_at l.returns.items server ≡ events_of (plan_of l.p) (returns_for (plan_of l.p) server);
  first : AreFirst (plan_of l.p) (before_servers (plan_of l.p) ++ map (opening_of_server (plan_of l.p)) (positions l.server)) l.objects.items;
}
