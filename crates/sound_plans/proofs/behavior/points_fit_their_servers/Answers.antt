use Rattle.sound_plans.proofs.Operations.{operations_sound}
use Rattle.sound_plans.proofs.behavior.points_fit_their_servers.Goals as goal

pub returns : goal.returns
returns c = operations_sound
