use Rattle.std.proofs.Common.{refl, subst}
use Rattle.std.proofs.lemmas.List.{take_all}
use Rattle.indexmap.specs.IndexSet.{contains}
use Rattle.join_search.specs.Partners.{AreSingle, same_key}
use Rattle.join_search.proofs.Keeping.{single_more, unseen}
use Rattle.join_search.proofs.partners.single_ends.Goals as goal

pub loop-join-preserved : goal.loop-join-preserved
loop-join-preserved c = single_more c.args.joins.now c.loop-join.join-index _ (λ q. contains same_key c.loop-join.found q) (λ q. contains same_key c.note_required.new.found q) _ c.loop-join-test.true refl
    (unseen _ c.in_ok-note_required.field-0 c.in_ok-note_required.ensures.is_new c.if-not-branch.false) c.in_ok-note_required.ensures.found c.loop-join.invariant

pub returns : goal.returns
returns c = subst (λ js. AreSingle js c.loop-join.found) (take_all c.loop-join.join-index c.args.joins.now c.loop-join-test.false) c.loop-join.invariant
