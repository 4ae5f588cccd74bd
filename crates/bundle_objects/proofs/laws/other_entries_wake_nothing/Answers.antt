use Rattle.bundle_objects.proofs.Starting.{wakes_nothing}
use Rattle.bundle_objects.proofs.laws.other_entries_wake_nothing.Goals as goal

pub returns : goal.returns
returns c = wakes_nothing
