use Rattle.server_objects.proofs.Opening.{server_opens}
use Rattle.server_objects.proofs.laws.first_servers_stand_for_nothing.Goals as goal

pub returns : goal.returns
returns c = server_opens
