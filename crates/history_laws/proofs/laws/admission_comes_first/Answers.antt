use Rattle.history_laws.proofs.Asking as by
use Rattle.history_laws.proofs.laws.admission_comes_first.Goals as goal

pub returns-clause-first : goal.returns-clause-first
returns-clause-first c = by.admission_first

pub returns-clause-once : goal.returns-clause-once
returns-clause-once c p m k r event other start answers of asks = by.admission_once p m k r event of start answers asks.followed other asks.next

pub returns-clause-own : goal.returns-clause-own
returns-clause-own c p m k r event other start answers of next = by.admission_own p m k r event of start answers other next

pub returns-clause-disabled : goal.returns-clause-disabled
returns-clause-disabled c p m k r event other start answers of next = by.admission_disabled p m k r event of start answers other next
