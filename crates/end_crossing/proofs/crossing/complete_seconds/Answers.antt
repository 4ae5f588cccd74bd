use Rattle.std.proofs.Common.{sym, subst}
use Rattle.description_types.specs.Members.{Among}
use Rattle.end_crossing.proofs.crossing.complete_seconds.Goals as goal

pub returns-clause-has : goal.returns-clause-has
returns-clause-has c = λ all k a. c.in_ok-has_seconds.ensures.has all k.1 (subst (Among k.1) (sym c.as_slice.ensures.keys) (c.in_ok-seconds.ensures k a))
