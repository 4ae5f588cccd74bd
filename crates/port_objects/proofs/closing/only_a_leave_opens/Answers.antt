use Rattle.port_objects.proofs.Closed.{closed_after}
use Rattle.port_objects.proofs.closing.only_a_leave_opens.Goals as goal

pub returns : goal.returns
returns c = λ p object before after n leads other. closed_after p object before after n leads other
