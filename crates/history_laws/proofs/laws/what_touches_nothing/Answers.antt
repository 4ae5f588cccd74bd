use Rattle.history_laws.proofs.Asking as by
use Rattle.history_laws.proofs.laws.what_touches_nothing.Goals as goal

pub returns : goal.returns
returns c p m k r event start answers w of next none = by.touches p m k r event of start answers w next none
