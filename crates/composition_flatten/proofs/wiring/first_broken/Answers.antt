use Rattle.std.proofs.Common.{arith}
use Rattle.composition_flatten.proofs.Broken.{none_broken, none_broken_more}
use Rattle.composition_flatten.proofs.wiring.first_broken.Goals as goal

pub loop-composition-preserved : goal.loop-composition-preserved
loop-composition-preserved c = none_broken_more c.args.d.now c.loop-composition.composition c.in_ok-number.field-0 c.loop-composition.invariant c.in_ok-number.ensures c.in-None.is

pub returns : goal.returns
returns c = none_broken c.args.d.now c.loop-composition.composition c.loop-composition.invariant (omega arith)
