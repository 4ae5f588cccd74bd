use Rattle.std.proofs.Common.{ℕ, ◌↔◌, nat_eq, inl, inr, ⊎_elim, sym, ap, subst}
use Rattle.std.proofs.lemmas.List.{take_all}
use Rattle.indexmap.specs.IndexMap.{get}
use Rattle.description_types.specs.Members.{Among}
use Rattle.composition_tables.specs.Multi.{under}
use Rattle.composition_tables.proofs.Stepping.{one_more, under_more}
use Rattle.composition_tables.proofs.inner.by_prototype.Goals as goal

pub loop-pair-preserved : goal.loop-pair-preserved
loop-pair-preserved c = record {
  listed = λ q p a. (c.in_ok-note_prototype.ensures q).1 (⊎_elim (λ l. inl (c.loop-pair.invariant.listed q p l)) (λ e. inr (ap (λ (k : ℕ × ℕ). k.0) e)) ((one_more c.args.pairs.now c.loop-pair.pair-index (0, 0) (q, p) c.loop-pair-test.true).0 a));
  ports = λ q p. under_more c.args.pairs.now c.loop-pair.pair-index q p _ _ c.loop-pair-test.true (c.in_ok-add_under.ensures q p) (c.loop-pair.invariant.ports q p);
}

pub returns-clause-listed : goal.returns-clause-listed
returns-clause-listed c = λ q p a. c.loop-pair.invariant.listed q p (subst (Among (q, p)) (sym (take_all c.loop-pair.pair-index c.args.pairs.now c.loop-pair-test.false)) a)

pub returns-clause-ports : goal.returns-clause-ports
returns-clause-ports c = λ q p. subst (λ l. Among p (under (get nat_eq c.loop-pair.ports q)) ↔ Among (q, p) l) (take_all c.loop-pair.pair-index c.args.pairs.now c.loop-pair-test.false) (c.loop-pair.invariant.ports q p)
