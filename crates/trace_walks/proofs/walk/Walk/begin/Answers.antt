use Rattle.trace_walks.proofs.Going.{begun_so}
use Rattle.trace_walks.proofs.walk.Walk.begin.Goals as goal

pub returns : goal.returns
returns c = λ p h point value is. begun_so c.args.t.now p c.args.key h c.args.start.now c.args.event point value c.begin.new.self is c.in_ok-begin.ensures
