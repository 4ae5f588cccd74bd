use Rattle.server_objects.proofs.Planned.{server_of_plan, all_joined}
use Rattle.server_objects.proofs.laws.servers_of_sound_plans.Goals as goal

pub returns-clause-server : goal.returns-clause-server
returns-clause-server c = server_of_plan

pub returns-clause-joined : goal.returns-clause-joined
returns-clause-joined c = all_joined
