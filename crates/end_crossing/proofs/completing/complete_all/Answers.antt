use Rattle.std.proofs.Common.{inl, ⊎_elim, sym, subst}
use Rattle.std.proofs.lemmas.List.{take_all}
use Rattle.end_search.specs.Sides.{HasInterface}
use Rattle.description_types.specs.Members.{Among}
use Rattle.composition_tables.proofs.Stepping.{one_more}
use Rattle.end_crossing.proofs.completing.complete_all.Goals as goal

pub returns-then-not-side-clause-has : goal.returns-then-not-side-clause-has
returns-then-not-side-clause-has c = λ _ q a. inl c.if-not-side.true

pub loop-interface-preserved : goal.loop-interface-preserved
loop-interface-preserved c = record {
  side = c.in_ok-complete.ensures.side;
  has = λ q a. ⊎_elim (λ l. c.in_ok-complete.ensures.stays q (c.loop-interface.invariant.has q l)) (λ e. subst (HasInterface c.complete.new.side) (sym e) (c.in_ok-complete.ensures.has c.if-not-branch.false))
      ((one_more c.args.interfaces.now c.loop-interface.interface-index 0 q c.loop-interface-test.true).0 a);
}

pub returns : goal.returns
returns c = record {
  side = c.loop-interface.invariant.side;
  has = λ _ q a. c.loop-interface.invariant.has q (subst (Among q) (sym (take_all c.loop-interface.interface-index c.args.interfaces.now c.loop-interface-test.false)) a);
}
