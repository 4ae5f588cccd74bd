use Rattle.bundle_objects.proofs.Starting.{by_flags}
use Rattle.bundle_objects.proofs.laws.starts_go_by_flags.Goals as goal

pub returns : goal.returns
returns c = by_flags
