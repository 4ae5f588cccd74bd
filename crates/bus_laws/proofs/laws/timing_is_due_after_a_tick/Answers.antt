use Rattle.bus_laws.proofs.DueLaws as by
use Rattle.bus_laws.proofs.laws.timing_is_due_after_a_tick.Goals as goal

pub returns : goal.returns
returns c = record { due = by.timing_due }
