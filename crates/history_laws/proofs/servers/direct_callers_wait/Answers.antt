use Rattle.history_laws.proofs.Directs as by
use Rattle.history_laws.proofs.servers.direct_callers_wait.Goals as goal

pub returns-clause-running : goal.returns-clause-running
returns-clause-running c = λ p m h point k sound legal key running. by.running_waits p m sound point k key h legal running

pub returns-clause-unstarted : goal.returns-clause-unstarted
returns-clause-unstarted c = λ p m h point k sound legal key some. by.unstarted_waits p m sound point k key h legal some
