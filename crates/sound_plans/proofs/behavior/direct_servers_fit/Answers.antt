use Rattle.sound_plans.proofs.Direct.{direct_servers_sound}
use Rattle.sound_plans.proofs.behavior.direct_servers_fit.Goals as goal

pub returns : goal.returns
returns c = direct_servers_sound
