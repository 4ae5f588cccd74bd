use Rattle.bus_semantics.specs.Plan.{plan_of}
use Rattle.core_runtime.proofs.Behind.{behind_new}
use Rattle.core_runtime.proofs.watch.Watch.new.Goals as goal

pub returns : goal.returns
returns c = λ t objects.
    let all = c.in_ok-awake.ensures (plan_of c.args.p.now) t objects in
    let ready = c.requires.ready in
    record { awake = all.0; waiting = all.1; seated = c.in_ok-seats.ensures; behind = behind_new (plan_of c.args.p.now) ready.0 ready.1 c.args.cores.now ready.2 c.requires.numbers; starters = c.in_ok-starters.ensures }
