use Rattle.std.proofs.Common.{sym, subst}
use Rattle.description_types.specs.Members.{Among}
use Rattle.end_crossing.proofs.completing.ends_of.Goals as goal

pub returns : goal.returns
returns c = λ x. (
  (λ a. let l = (c.in_ok-list.ensures x).0 a in (c.in_ok-found.ensures.sound x (subst (Among x) c.as_slice.ensures.keys l.0), l.1)),
  (λ h. (c.in_ok-list.ensures x).1 (subst (Among x) (sym c.as_slice.ensures.keys) (c.in_ok-found.ensures.whole c.if-found.false x h.0 h.1), h.1)),
)
