use Rattle.history_laws.proofs.Unjoined as by
use Rattle.history_laws.proofs.coming.unjoined_points_return_nothing.Goals as goal

pub returns : goal.returns
returns c = by.never_due
