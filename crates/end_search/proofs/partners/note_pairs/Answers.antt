use Rattle.std.proofs.Common.{inl, inr, ⊎_elim, ap, sym, subst}
use Rattle.std.proofs.lemmas.List.{take_all}
use Rattle.description_types.specs.Members.{Among}
use Rattle.end_search.proofs.Keying.{taken_cases}
use Rattle.end_search.proofs.partners.note_pairs.Goals as goal

pub loop-other-preserved : goal.loop-other-preserved
loop-other-preserved c = record {
  stays = λ k h. (c.in_ok-note_pair.ensures k).1 (inl (c.loop-other.invariant.stays k h));
  has = λ j a. ⊎_elim (λ l. (c.in_ok-note_pair.ensures (c.args.interface, j)).1 (inl (c.loop-other.invariant.has j l))) (λ e. (c.in_ok-note_pair.ensures (c.args.interface, j)).1 (inr (ap (λ m. (c.args.interface, m)) e)))
      (taken_cases c.args.others.now c.loop-other.other-index 0 j c.loop-other-test.true a);
}

pub returns-clause-has : goal.returns-clause-has
returns-clause-has c = λ j a. c.loop-other.invariant.has j (subst (Among j) (sym (take_all c.loop-other.other-index c.args.others.now c.loop-other-test.false)) a)
