use Rattle.sound_plans.proofs.Servers.{servers_sound}
use Rattle.sound_plans.proofs.behavior.servers_serve.Goals as goal

pub returns : goal.returns
returns c = servers_sound
