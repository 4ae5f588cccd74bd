use Rattle.core_turn.proofs.Keeping.{stands_beside}
use Rattle.core_turn.proofs.laws.cores_stand_beside_one_another.Goals as goal

pub returns : goal.returns
returns c = stands_beside
