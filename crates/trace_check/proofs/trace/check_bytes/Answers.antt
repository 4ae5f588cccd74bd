use Rattle.std.proofs.Common.{◌≢◌, [], inl, rules}
use Rattle.trace_check.proofs.Verdicts.{headless}
use Rattle.trace_check.proofs.trace.check_bytes.Goals as goal

pub returns-in-None : goal.returns-in-None
returns-in-None c =
    let some : c.args.trace.now ≢ [] = search rules in
    inl (headless c.args.trace.now c.first_line.result.0.now c.first_line.result.1.now some c.first_line.ensures.whole c.first_line.ensures.line c.in-None.ensures)
