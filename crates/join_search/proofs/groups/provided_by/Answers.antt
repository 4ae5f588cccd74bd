use Rattle.std.proofs.Common.{◌&&◌, refl}
use Rattle.plan_definitions.specs.Joins.{same_end, is_crowded}
use Rattle.join_search.specs.Partners.{key_of}
use Rattle.join_search.proofs.Marking.{marked_more, marked_all}
use Rattle.join_search.proofs.groups.provided_by.Goals as goal

pub loop-join-preserved : goal.loop-join-preserved
loop-join-preserved c = λ e. marked_more (λ r. same_end r e) (λ j. j.required) (λ j. is_crowded c.args.crowded.now.joins.now j.provided) c.args.crowded.now.joins.now c.loop-join.join-index
    _ _ _ _ _ _ c.loop-join-test.true (c.has.ensures) refl (c.in_ok-mark.ensures (key_of e)) (c.loop-join.invariant e)

pub returns : goal.returns
returns c = λ e. marked_all (λ j. same_end j.required e && is_crowded c.args.crowded.now.joins.now j.provided) c.args.crowded.now.joins.now c.loop-join.join-index _ _ c.loop-join-test.false (c.loop-join.invariant e)
