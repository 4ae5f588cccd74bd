use Rattle.std.proofs.Common.{subst}
use Rattle.description_types.specs.Members.{Among}
use Rattle.end_crossing.proofs.matched.Matched.begin.Goals as goal

pub returns : goal.returns
returns c = λ links. record {
  matched = record { listed = c.requires.listed; kept = c.requires.kept; sides = c.requires.sides; near = c.requires.near };
  done = λ k a. absurd (subst (Among k) c.new.ensures.empty a);
  crossed = λ k a. absurd (subst (Among k) c.new-2.ensures.empty a);
}
