use Rattle.server_objects.proofs.Starting.{by_flags}
use Rattle.server_objects.proofs.laws.starts_go_by_flags.Goals as goal

pub returns : goal.returns
returns c = by_flags
