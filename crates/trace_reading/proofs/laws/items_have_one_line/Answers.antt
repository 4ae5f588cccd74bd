use Rattle.trace_reading.proofs.Naming.{named, readable}
use Rattle.trace_reading.proofs.Sessions.{line_in, item-line, line_lacks}
use Rattle.trace_reading.proofs.laws.items_have_one_line.Goals as goal

pub returns : goal.returns
returns c = λ p m sound v i fit. record { line = line_in v p i; whole = item-line v p i; unbroken = line_lacks v p (named p (readable p m sound)) i fit }
