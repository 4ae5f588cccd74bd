use Rattle.std.proofs.Common.{sym, subst, add-one, arith, ◌≡◌}
use Rattle.composition_tables.specs.Levels.{IsLevel}
use Rattle.composition_tables.proofs.depth.deepest_level.Goals as goal

pub loop-preserved : goal.loop-preserved
loop-preserved c = subst (λ n. IsLevel c.args.d.now n c.in_ok-level-2.level.keys) (sym (add-one c.loop.counter)) (c.in_ok-level-2.ensures c.loop.counter c.loop.invariant)

pub returns : goal.returns
returns c = let eight : c.loop.counter ≡ 8 = omega arith in subst (λ n. IsLevel c.args.d.now n c.loop.level.keys) eight c.loop.invariant
