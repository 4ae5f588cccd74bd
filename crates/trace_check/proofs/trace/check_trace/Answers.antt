use Rattle.bus_semantics.specs.Plan.{plan_of}
use Rattle.trace_check.proofs.Verdicts.{legal_exactly}
use Rattle.trace_check.proofs.trace.check_trace.Goals as goal

pub returns-clause-legal : goal.returns-clause-legal
returns-clause-legal c =
    let p = plan_of c.args.p.now in
    let m = c.args.m.now in
    legal_exactly p m c.args.script.now.lines c.args.trace.now (c.traces_have_one_verdict.ensures p m c.requires.sound) c.check_bytes.result c.check_bytes.ensures
