use Rattle.std.proofs.Common.{◌&&◌, refl, ap, ◌∙◌}
use Rattle.indexmap.specs.IndexSet.{contains}
use Rattle.join_search.specs.Partners.{key_of, same_key}
use Rattle.join_search.specs.Suspects.{port_of, same_port}
use Rattle.join_search.proofs.Marking.{marked_more, marked_all}
use Rattle.join_search.proofs.suspects.ports_of_crowded.Goals as goal

pub loop-join-preserved : goal.loop-join-preserved
loop-join-preserved c = λ q. marked_more (λ r. same_port (port_of r) q) (λ j. j.required) (λ j. contains same_key c.args.crowded.now (key_of j.required)) c.args.joins.now c.loop-join.join-index
    _ _ _ _ _ _ c.loop-join-test.true (c.contains-is_among.ensures ∙ ap (contains same_key c.args.crowded.now) c.key_of_end.ensures) refl (c.in_ok-mark.ensures q) (c.loop-join.invariant q)

pub returns : goal.returns
returns c = λ q. marked_all (λ j. same_port (port_of j.required) q && contains same_key c.args.crowded.now (key_of j.required)) c.args.joins.now c.loop-join.join-index _ _ c.loop-join-test.false (c.loop-join.invariant q)
