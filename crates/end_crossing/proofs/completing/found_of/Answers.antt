use Rattle.std.proofs.Common.{sym, subst}
use Rattle.description_types.specs.Members.{Among}
use Rattle.end_crossing.proofs.completing.found_of.Goals as goal

pub returns-clause-sound : goal.returns-clause-sound
returns-clause-sound c = c.in_ok-found.ensures.found.sound

pub returns-clause-whole : goal.returns-clause-whole
returns-clause-whole c = λ cut x a e. c.in_ok-found.ensures.found.whole cut x a (subst (λ i. Among i c.in_ok-only.field-0.keys) (sym e) c.in_ok-only.ensures)
