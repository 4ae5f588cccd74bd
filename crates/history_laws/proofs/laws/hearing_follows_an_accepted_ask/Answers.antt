use Rattle.history_laws.proofs.Asking as by
use Rattle.history_laws.proofs.laws.hearing_follows_an_accepted_ask.Goals as goal

pub returns-clause-accepted : goal.returns-clause-accepted
returns-clause-accepted c p m k r event point start answers of asks = by.accepted p m k r event of start answers asks.followed point asks.next

pub returns-clause-waits : goal.returns-clause-waits
returns-clause-waits c p m k r event point start answers of next = by.awaited p m k r event of start answers point next
