use Rattle.std.proofs.Common.{ℕ}
use Rattle.plan_definitions.proofs.Turns.{one_more}
use Rattle.plan_numbers.proofs.parts.push_numbered.Goals as goal

pub loop-number-preserved : goal.loop-number-preserved
loop-number-preserved c = one_more {Y = ℕ × ℕ} (λ n. (c.args.instance, n)) _ _ _ c.loop-number.number c.args.count c.loop-number-test.true c.in_ok-push_pair.ensures c.loop-number.invariant
