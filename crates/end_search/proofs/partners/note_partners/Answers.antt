use Rattle.std.proofs.Common.{⊎_elim, sym, subst}
use Rattle.indexmap.specs.IndexMap.{get}
use Rattle.std.proofs.lemmas.List.{take_all}
use Rattle.description_types.specs.Members.{Among}
use Rattle.end_search.specs.Sharing.{same_item}
use Rattle.composition_tables.specs.Multi.{under}
use Rattle.end_search.proofs.Keying.{taken_cases}
use Rattle.end_search.proofs.partners.note_partners.Goals as goal

pub loop-place-preserved : goal.loop-place-preserved
loop-place-preserved c = record {
  stays = λ k h. c.in_ok-note_pairs.ensures.stays k (c.loop-place.invariant.stays k h);
  has = λ q j a b. ⊎_elim (λ l. c.in_ok-note_pairs.ensures.stays (c.args.interface, j) (c.loop-place.invariant.has q j l b))
      (λ e. c.in_ok-note_pairs.ensures.has j (subst (Among j) (sym c.under_key.ensures) (subst (λ z. Among j (under (get same_item c.args.index.now z))) e b)))
      (taken_cases c.args.keys.now c.loop-place.place _ q c.loop-place-test.true a);
}

pub returns-clause-has : goal.returns-clause-has
returns-clause-has c = λ q j a b. c.loop-place.invariant.has q j (subst (Among q) (sym (take_all c.loop-place.place c.args.keys.now c.loop-place-test.false)) a) b
