use Rattle.core_runtime.proofs.SameNodes.{same_end}
use Rattle.core_runtime.proofs.round.run_round.Goals as goal

pub returns-then-n-eq1-clause-one_core : goal.returns-then-n-eq1-clause-one_core
returns-then-n-eq1-clause-one_core g c = λ ran one. same_end c.args.n.now c.make_ready.new.n c.run_alone.new.self.entries c.make_ready.ensures.same c.run_alone.ensures.end
