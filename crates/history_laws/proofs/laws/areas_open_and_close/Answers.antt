use Rattle.history_laws.proofs.Asking as by
use Rattle.history_laws.proofs.laws.areas_open_and_close.Goals as goal

pub returns-clause-leave : goal.returns-clause-leave
returns-clause-leave c p m k r event area start answers of asks = by.leaves_innermost p m k r event of start answers asks.followed area asks.next

pub returns-clause-enter : goal.returns-clause-enter
returns-clause-enter c p m k r event area start answers of asks = by.enters_greater p m k r event of start answers asks.followed area asks.next

pub returns-clause-outside : goal.returns-clause-outside
returns-clause-outside c p m k r event start answers w of asks out = by.outside p m k r event of start answers asks.followed w asks.next out

pub returns-clause-nested : goal.returns-clause-nested
returns-clause-nested c p m k r event start answers of followed = by.nested p m k r event of start answers followed
