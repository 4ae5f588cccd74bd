use Rattle.bus_semantics.specs.Plan.{plan_of}
use Rattle.trace_walks.proofs.walk.Walk.note.Goals as goal

pub returns-in_ok-begin-in-Start : goal.returns-in_ok-begin-in-Start
returns-in_ok-begin-in-Start c = λ h follows stands. c.in_ok-begin-in-Start.ensures (plan_of c.args.p.now) h c.in-Start.point c.in-Start.value c.in-Start.is
