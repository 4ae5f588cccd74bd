use Rattle.bus_semantics.specs.Plan.{plan_of}
use Rattle.pair_run.proofs.Marking.{marks_are}
use Rattle.pair_run.proofs.script.linked_in.Goals as goal

pub returns : goal.returns
returns c = marks_are (plan_of c.args.p.now) c.args.links.now c.loop-link.link-index c.loop-link.linked.items c.loop-link-test.false c.loop-link.invariant
