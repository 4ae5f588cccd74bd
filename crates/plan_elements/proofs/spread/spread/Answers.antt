use Rattle.std.proofs.Common.{◌∙◌}
use Rattle.plan_elements.specs.Spreads.{number_at}
use Rattle.plan_elements.proofs.Spreading.{spread_more}
use Rattle.plan_elements.proofs.spread.spread.Goals as goal

pub loop-pair-preserved : goal.loop-pair-preserved
loop-pair-preserved c = record {
  long = c.lower_pair.ensures.length ∙ c.loop-pair.invariant.long;
  numbers = λ n. spread_more c.args.pairs.now (number_at c.args.numbers.now) n c.loop-pair.pair-index _ _ _ _ c.loop-pair-test.true (c.lower_pair.ensures.numbers n) (c.loop-pair.invariant.numbers n);
}
