use Rattle.std.proofs.Common.{subst}
use Rattle.std.proofs.lemmas.Result.{IfOk-weaker}
use Rattle.trace_check.specs.Taking.{Goes}
use Rattle.trace_check.proofs.quick.take_other.Goals as goal

pub read_line-requires-clause-can : goal.read_line-requires-clause-can
read_line-requires-clause-can c =
    let can = c.requires.can in
    (can.0, subst (Goes c.args.rules.now can.0 c.args.left.now c.go_on.new.check) c.in-Nowhere.is (c.in_ok-more.ensures can.0 can.1))

pub returns-in-To : goal.returns-in-To
returns-in-To c = λ s stands. subst (Goes c.args.rules.now s c.args.left.now c.go_on.new.check) c.in-To.is (c.in_ok-more.ensures s stands)

pub returns-in-Nowhere : goal.returns-in-Nowhere
returns-in-Nowhere c =
    IfOk-weaker c.read_line.result _ _
    (λ behind takes. λ s stands. takes s (subst (Goes c.args.rules.now s c.args.left.now c.go_on.new.check) c.in-Nowhere.is (c.in_ok-more.ensures s stands)))
    c.read_line.ensures
