use Rattle.trace_reading.proofs.Naming.{named, readable}
use Rattle.trace_reading.proofs.Sessions.{one_item}
use Rattle.trace_reading.proofs.laws.lines_have_one_reading.Goals as goal

pub returns : goal.returns
returns c = λ p m sound v line i j a b. one_item v p (named p (readable p m sound)) line i j a b
