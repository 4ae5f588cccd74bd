use Rattle.rte_text.proofs.Written.{Written}
use Rattle.rte_text.proofs.real.write_to_end.Given as goal

abbrev pub invariant-loop : goal.invariant-loop
invariant-loop g l = Written (g.W.Write.contents l.fn.out) (g.W.Write.contents l.out) l.fn.piece l.rest
