use Rattle.bus_laws.proofs.ReturnLaws as by
use Rattle.bus_laws.proofs.laws.answers_are_returns.Goals as goal

pub returns-clause-some : goal.returns-clause-some
returns-clause-some c = by.answered

pub returns-clause-none : goal.returns-clause-none
returns-clause-none c = by.unanswered

pub returns-clause-no_data : goal.returns-clause-no_data
returns-clause-no_data c = by.no_data

pub returns-clause-only_then : goal.returns-clause-only_then
returns-clause-only_then c = by.only_then
