use Rattle.std.proofs.lemmas.Bool.{and_from}
use Rattle.description_stages.proofs.soundness.plans_are_sound.Goals as goal

pub returns : goal.returns
returns c = λ d f p m whole. record {
  names = and_from _ _ (c.names_of_plans_fit.ensures.fit d f p m whole)
      (and_from _ _ (and_from _ _ (c.things_of_plans_are_named_once.ensures.instances d f p m whole)
      (and_from _ _ (c.things_of_plans_are_named_once.ensures.elements d f p m whole)
      (and_from _ _ (c.points_are_named_once.ensures d f p m whole)
      (and_from _ _ (c.things_of_plans_are_named_once.ensures.servers d f p m whole)
      (and_from _ _ (c.things_of_plans_are_named_once.ensures.areas d f p m whole)
      (and_from _ _ (c.things_of_plans_are_named_once.ensures.machines d f p m whole)
      (and_from _ _ (c.things_of_plans_are_named_once.ensures.modes d f p m whole)
      (and_from _ _ (c.things_of_plans_are_named_once.ensures.mode_ports d f p m whole)
      (and_from _ _ (c.things_of_plans_are_named_once.ensures.events d f p m whole) (c.things_of_plans_are_named_once.ensures.runnables d f p m whole))))))))))
      (and_from _ _ (c.names_of_plans_fit.ensures.env d f p m whole) (c.names_of_plans_fit.ensures.ports d f p m whole)));
  ports = c.ports_stand_together.ensures d f p m whole;
  arranged = c.plans_are_arranged.ensures d f p m whole;
  instances = c.plans_name_their_instances.ensures d f p m whole;
  groups = c.groups_of_plans_fit.ensures d f p m whole;
  objects = c.objects_of_plans_are_counted.ensures d f p m whole;
  elements = c.elements_of_plans_are_sound.ensures d f p m whole;
  joins = c.joined_elements_of_plans_agree.ensures d f p m whole;
  machines = c.machines_of_plans_are_sound.ensures d f p m whole;
  mode_ports = c.mode_ports_have_machines.ensures d f p m whole;
  points = c.points_stand_by_caller.ensures d f p m whole;
  operations = c.points_fit_their_servers.ensures d f p m whole;
  runnables = c.runnables_fit.ensures d f p m whole;
  events = c.events_fit.ensures d f p m whole;
  servers = c.servers_serve.ensures d f p m whole;
  direct = c.direct_servers_fit.ensures d f p m whole;
  lengths = c.queues_of_plans_are_bounded.ensures d f p m whole;
  few_points = c.points_of_plans_are_few.ensures d f p m whole;
  lists = c.lists_of_plans_are_sound.ensures d f p m whole;
  bundles = c.bundles_of_plans_fit.ensures d f p m whole;
  tasks = c.tasks_fit.ensures d f p m whole;
  order = c.waits_are_ordered.ensures d f p m whole;
}
