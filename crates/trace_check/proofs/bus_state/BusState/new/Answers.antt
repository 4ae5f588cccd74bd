use Rattle.trace_check.proofs.bus_state.BusState.new.Goals as goal

pub returns : goal.returns
returns c = record {
  planned = c.in_ok-objects.ensures.planned;
  objects = λ i o is. c.in_ok-objects.ensures.standing i o is;
  unrest = c.in_ok-unrest.ensures c.in_ok-objects.objects.items;
  walks = c.in_ok-walks.ensures c.args.rules.now.tasks.now;
  runners = c.in_ok-runners.ensures;
}
