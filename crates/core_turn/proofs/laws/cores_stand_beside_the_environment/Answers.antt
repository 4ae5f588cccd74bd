use Rattle.core_turn.proofs.Beside.{environment_stands}
use Rattle.core_turn.proofs.laws.cores_stand_beside_the_environment.Goals as goal

pub returns : goal.returns
returns c = λ p t g core e env stands i s found. environment_stands p t g e env s (stands i s found)
