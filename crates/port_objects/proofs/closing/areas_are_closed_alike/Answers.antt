use Rattle.port_objects.proofs.Closed.{closed_alike}
use Rattle.port_objects.proofs.closing.areas_are_closed_alike.Goals as goal

pub returns : goal.returns
returns c = λ p object area k a fit there none. closed_alike p object area a fit there k none
