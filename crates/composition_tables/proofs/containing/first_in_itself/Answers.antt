use Rattle.std.proofs.Common.{arith, length}
use Rattle.description_types.specs.Paths.{ContainsItself}
use Rattle.composition_tables.proofs.FirstOnes.{none_more, none_all}
use Rattle.composition_tables.proofs.containing.first_in_itself.Goals as goal

pub loop-composition-preserved : goal.loop-composition-preserved
loop-composition-preserved c = none_more (ContainsItself c.args.d.now) c.loop-composition.composition c.in_ok-is_in_itself.field-0 c.loop-composition.invariant c.in_ok-is_in_itself.ensures c.if-branch.false

pub returns : goal.returns
returns c = none_all (ContainsItself c.args.d.now) c.loop-composition.composition (length c.args.d.now.compositions) c.loop-composition.invariant (omega (arith, c.len-composition-end.ensures))
