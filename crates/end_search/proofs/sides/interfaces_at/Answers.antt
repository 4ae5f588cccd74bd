use Rattle.std.proofs.Common.{sym, subst}
use Rattle.description_types.specs.Members.{Among}
use Rattle.end_search.proofs.sides.interfaces_at.Goals as goal

pub returns : goal.returns
returns c = λ x a. c.in_ok-interfaces-2.ensures x (subst (Among x) (sym c.as_slice.ensures.keys) (c.requires.found.whole c.if-found.false x a tt))
