use Rattle.std.proofs.Common.{inl, inr, refl}
use Rattle.rte_program.proofs.pair.run_prepared_pair.Goals as goal

pub returns-in-Failed : goal.returns-in-Failed
returns-in-Failed g c = inr (inl (refl, c.in-Failed.ensures.run.0, c.in-Failed.ensures.run.1))
