use Rattle.bus_laws.proofs.DoneLaws as by
use Rattle.bus_laws.proofs.laws.done_after_the_last_phase.Goals as goal

pub returns : goal.returns
returns c = record { done = by.done }
