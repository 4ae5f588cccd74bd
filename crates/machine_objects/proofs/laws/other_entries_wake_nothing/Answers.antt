use Rattle.machine_objects.proofs.Starting as by
use Rattle.machine_objects.proofs.laws.other_entries_wake_nothing.Goals as goal

pub returns : goal.returns
returns c = by.wakes_nothing
