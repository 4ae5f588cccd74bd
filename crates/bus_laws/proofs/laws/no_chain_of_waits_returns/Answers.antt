use Rattle.bus_laws.proofs.WaitingLaws as by
use Rattle.bus_laws.proofs.laws.no_chain_of_waits_returns.Goals as goal

pub returns : goal.returns
returns c = by.no_return
