use Rattle.history_laws.proofs.Comings as by
use Rattle.history_laws.proofs.calls.calls_come.Goals as goal

pub returns-clause-always : goal.returns-clause-always
returns-clause-always c = by.always

pub returns-clause-start : goal.returns-clause-start
returns-clause-start c = by.start

pub returns-clause-enter : goal.returns-clause-enter
returns-clause-enter c = by.enter

pub returns-clause-hear : goal.returns-clause-hear
returns-clause-hear c = by.hear

pub returns-clause-leave : goal.returns-clause-leave
returns-clause-leave c = by.leave

pub returns-clause-give_back : goal.returns-clause-give_back
returns-clause-give_back c = by.give_back

pub returns-clause-admit : goal.returns-clause-admit
returns-clause-admit c = by.admit

pub returns-clause-move_on : goal.returns-clause-move_on
returns-clause-move_on c = by.move_on

pub returns-clause-end : goal.returns-clause-end
returns-clause-end c = by.end
