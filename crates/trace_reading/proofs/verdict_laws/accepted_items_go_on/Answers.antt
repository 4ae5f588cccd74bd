use Rattle.trace_reading.proofs.Accepted.{goes_on, was_accepted, not_both, one_clause}
use Rattle.trace_reading.proofs.verdict_laws.accepted_items_go_on.Goals as goal

pub returns-clause-go_on : goal.returns-clause-go_on
returns-clause-go_on c = λ p m script s i begun fit. (goes_on p m script s i begun fit, was_accepted p m script s i)

pub returns-clause-apart : goal.returns-clause-apart
returns-clause-apart c = λ p m. not_both p m

pub returns-clause-one_clause : goal.returns-clause-one_clause
returns-clause-one_clause c = λ p m. one_clause p m
