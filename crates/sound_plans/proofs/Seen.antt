-- The lists of a plan that is the one of a description.
use Rattle.std.proofs.Common.{◌≡◌, length, map, ap, ◌∙◌}
use Rattle.bus_semantics.specs.Common.{length-map, runnable_of}
use Rattle.plan_definitions.specs.Common.{Description, Flat, Instance, elem_seen, elements, machines, mode_ports, points, servers, events, runnables, plan_of, seen, areas}
use Rattle.bus_semantics.specs.declared.plan.BusPlan.{BusPlan}

module _ (d : Description) (f : Flat) (p : BusPlan) (is : seen p ≡ plan_of d f) where
  pub names_are : p.names ≡ map (λ (x : Instance). x.path) f.instances
  names_are = ap (λ q. q.names) is

  pub names_count : length p.names ≡ length f.instances
  names_count = ap length names_are ∙ length-map f.instances (λ (x : Instance). x.path)

  pub elements_are : map elem_seen p.elements ≡ elements d f
  elements_are = ap (λ q. q.elements) is

  pub points_are : p.points ≡ points d f
  points_are = ap (λ q. q.points) is

  pub servers_are : p.servers ≡ servers d f
  servers_are = ap (λ q. q.servers) is

  pub areas_are : p.areas ≡ areas d f
  areas_are = ap (λ q. q.areas) is

  pub machines_are : p.machines ≡ machines d f
  machines_are = ap (λ q. q.machines) is

  pub mode_ports_are : p.mode_ports ≡ mode_ports d f
  mode_ports_are = ap (λ q. q.mode_ports) is

  pub events_are : p.events ≡ events d f
  events_are = ap (λ q. q.events) is

  pub runnables_are : map runnable_of p.runnables ≡ runnables d f
  runnables_are = ap (λ q. q.runnables) is
