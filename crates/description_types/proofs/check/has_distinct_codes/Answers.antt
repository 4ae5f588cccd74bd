use Rattle.std.proofs.Common.{refl, arith, rules}
use Rattle.std.proofs.lemmas.Grind.{common_steps}
use Rattle.description_types.proofs.Codes.{none_seen, codes_turn}
use Rattle.description_types.proofs.check.has_distinct_codes.Goals as goal

pub loop-error-init : goal.loop-error-init
loop-error-init c = record { every_code = refl; is_left = grind (arith, none_seen 256 c.args.errors.now) }

pub loop-error-preserved : goal.loop-error-preserved
loop-error-preserved c = record {
  every_code = grind (arith, common_steps);
  is_left = codes_turn c.loop-error.seen c.args.errors.now c.loop-error.error-index c.error-item.result _ c.loop-error-test.true c.error-item.is (omega arith) (search rules) c.loop-error.invariant.is_left;
}
