use Rattle.std.proofs.Common.{◌≤◌, subst, length}
use Rattle.bus_semantics.specs.Plan.{plan_of}
use Rattle.data_objects.proofs.Opening.{initial_beyond}
use Rattle.data_objects.proofs.making.initial_value.Goals as goal

pub returns-in-None : goal.returns-in-None
returns-in-None c =
    let beyond : length c.items.result.now ≤ c.args.elem = c.in-None.ensures.lookup.3 in
    initial_beyond (plan_of c.args.p.now) c.args.elem c.empty.result (subst (λ es. length es ≤ c.args.elem) c.items.ensures beyond) c.empty.ensures
