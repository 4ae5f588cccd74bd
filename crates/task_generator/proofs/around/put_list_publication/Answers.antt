use Rattle.bus_semantics.specs.Plan.{plan_of}
use Rattle.task_generator.proofs.Publications.{list_put}
use Rattle.task_generator.proofs.around.put_list_publication.Goals as goal

pub returns : goal.returns
returns c = list_put (plan_of c.args.p.now) c.args.elements.now c.args.list _ _ _ _ _ c.in_ok-passed.ensures c.in_ok-slots.ensures c.in_ok-put.ensures c.in_ok-put_call.ensures
