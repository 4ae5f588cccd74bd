use Rattle.sound_plans.proofs.Connected.{groups_are_connected}
use Rattle.sound_plans.proofs.elements.groups_are_what_joins_connect.Goals as goal

pub returns : goal.returns
returns c = groups_are_connected
