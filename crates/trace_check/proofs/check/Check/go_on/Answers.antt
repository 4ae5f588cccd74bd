use Rattle.trace_check.proofs.check.Check.go_on.Goals as goal

pub move_on-requires-clause-machine : goal.move_on-requires-clause-machine
move_on-requires-clause-machine c = (c.in-Machine.field-0, c.in-Machine.is)
