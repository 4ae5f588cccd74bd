use Rattle.trace_reading.proofs.Reached.{one_verdict}
use Rattle.trace_reading.proofs.verdict_laws.traces_have_one_verdict.Goals as goal

pub returns : goal.returns
returns c = λ p m sound script trace a b. one_verdict p m script trace (c.items_have_one_line.ensures p m sound) (c.lines_have_one_reading.ensures p m sound) a b
