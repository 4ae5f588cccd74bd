use Rattle.trace_objects.proofs.Spoken as by
use Rattle.trace_objects.proofs.clauses.one_clause_speaks.Goals as goal

pub returns-clause-answered : goal.returns-clause-answered
returns-clause-answered c = λ p h n answers. by.unbroken p h n answers

pub returns-clause-spoken : goal.returns-clause-spoken
returns-clause-spoken c = λ p h n plain no. by.spoken p h n.entry.actor n.event n.entry.deed plain no
