use Rattle.bus_laws.proofs.Resting as by
use Rattle.bus_laws.proofs.laws.what_is_stuck.Goals as goal

pub returns-clause-start : goal.returns-clause-start
returns-clause-start c = by.start_stuck

pub returns-clause-enter : goal.returns-clause-enter
returns-clause-enter c = by.enter_stuck

pub returns-clause-answer : goal.returns-clause-answer
returns-clause-answer c = by.answer_stuck
