use Rattle.std.proofs.Common.{sym, subst}
use Rattle.description_types.specs.Members.{Among}
use Rattle.composition_tables.proofs.inner.inner_of.Goals as goal

pub returns : goal.returns
returns c = record {
  listed = λ q p a. c.in_ok-inner.ensures.listed q p ((c.in_ok-inner.ensures.ports q p).0 a);
  are = λ q p. (
    (λ a. (c.in_ok-pairs.ensures (q, p)).0 (subst (Among (q, p)) c.as_slice.ensures.keys ((c.in_ok-inner.ensures.ports q p).0 a))),
    (λ a. (c.in_ok-inner.ensures.ports q p).1 (subst (Among (q, p)) (sym c.as_slice.ensures.keys) ((c.in_ok-pairs.ensures (q, p)).1 a))),
  );
}
