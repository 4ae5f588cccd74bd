use Rattle.history_laws.proofs.Queues as queues
use Rattle.history_laws.proofs.Directs as directs
use Rattle.history_laws.proofs.servers.requests_have_servers.Goals as goal

pub returns-clause-queued : goal.returns-clause-queued
returns-clause-queued c p m h point server v most sound legal joined there queue of = queues.waited_for p m sound server most v there queue point joined h legal of

pub returns-clause-direct : goal.returns-clause-direct
returns-clause-direct c p m h point k sound legal key of = directs.begun_or_served p m sound point k key h legal of

pub returns-clause-unstarted : goal.returns-clause-unstarted
returns-clause-unstarted c p m h point k sound legal key some = directs.unstarted_asked p m sound point k key h legal some
