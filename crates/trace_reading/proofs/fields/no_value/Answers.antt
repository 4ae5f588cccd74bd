use Rattle.trace_reading.proofs.Values.{no_value-is}
use Rattle.trace_reading.proofs.fields.no_value.Goals as goal

pub returns : goal.returns
returns c = no_value-is c.empty.result c.empty.ensures
