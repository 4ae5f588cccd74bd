use Rattle.rte_text.proofs.Written.{written-more, written-prefix, written-kept}
use Rattle.rte_text.proofs.real.write_to_end.Goals as goal

pub returns-in_default : goal.returns-in_default
returns-in_default g c = written-prefix (written-kept _ c.loop.invariant c.in_default.ensures.bytes)

pub returns-then-count-eq0 : goal.returns-then-count-eq0
returns-then-count-eq0 g c = written-prefix (written-more _ c.in-Ok.count c.loop.invariant c.in-Ok.ensures.bytes)

pub loop-preserved : goal.loop-preserved
loop-preserved g c = written-more _ _ c.loop.invariant c.in-Ok.ensures.bytes

pub returns : goal.returns
returns g c = written-prefix c.loop.invariant
