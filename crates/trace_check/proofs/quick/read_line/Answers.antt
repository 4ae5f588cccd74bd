use Rattle.std.proofs.Common.{subst}
use Rattle.bus_semantics.specs.declared.plan.BusPlan.{BusPlan}
use Rattle.bus_semantics.specs.Plan.{plan_of}
use Rattle.trace_reading.specs.Reads.{Reads}
use Rattle.trace_check.specs.Checking.{JudgesRead}
use Rattle.trace_check.proofs.AtOnce.{read_accepted}
use Rattle.trace_check.proofs.quick.read_line.Goals as goal

pub returns-in-Accepted : goal.returns-in-Accepted
returns-in-Accepted c = λ s stands.
    let r = c.args.rules.now in
    let first = c.first_line.result.0.now in
    let read = c.read_expecting-read.result in
    let reads = subst (λ (b : BusPlan). Reads r.version (plan_of b) first read) c.requires.of_plan c.read_expecting-read.ensures.reads in
    let judges = subst (JudgesRead r s read c.judge.new.self) c.in-Accepted.is (c.in_ok-judge.ensures s stands) in
    read_accepted r s c.args.left.now first c.first_line.result.1.now read c.judge.new.self c.first_line.ensures.whole reads judges
