use Rattle.bus_laws.proofs.Costs as by
use Rattle.bus_laws.proofs.laws.cost_bounds_the_calls.Goals as goal

pub returns : goal.returns
returns c = by.program_bounded
