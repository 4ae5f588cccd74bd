use Rattle.trace_walks.proofs.Idle.{empty_is}
use Rattle.trace_walks.proofs.runners.is_empty.Goals as goal

pub returns-clause-empty : goal.returns-clause-empty
returns-clause-empty c = empty_is c.args.set.now c.next.result c.next.ensures.next c.is_none.result c.is_none.ensures
