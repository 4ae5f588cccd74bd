use Rattle.history_laws.proofs.Asking as by
use Rattle.history_laws.proofs.laws.one_return_before_the_end.Goals as goal

pub returns-clause-before : goal.returns-clause-before
returns-clause-before c p m k r event start answers w of asks before = by.not_returned p m k r event of start answers asks.followed w asks.next before

pub returns-clause-end : goal.returns-clause-end
returns-clause-end c p m k r event other start answers of asks = by.returned p m k r event of start answers asks.followed other asks.next

pub returns-clause-server : goal.returns-clause-server
returns-clause-server c p m k r event code start words answers of next = by.returns_served p m k r event of start answers code words next
