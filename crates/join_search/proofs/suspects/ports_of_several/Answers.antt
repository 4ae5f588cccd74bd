use Rattle.std.proofs.Common.{◌&&◌, refl, ap, ◌∙◌}
use Rattle.plan_definitions.specs.Joins.{are_several, providers}
use Rattle.join_search.specs.Suspects.{port_of, same_port}
use Rattle.join_search.proofs.Marking.{marked_more, marked_all}
use Rattle.join_search.proofs.suspects.ports_of_several.Goals as goal

pub loop-join-preserved : goal.loop-join-preserved
loop-join-preserved c = λ q. marked_more (λ r. same_port (port_of r) q) (λ j. j.required) (λ j. are_several (providers c.args.degrees.now.joins.now j.required)) c.args.degrees.now.joins.now c.loop-join.join-index
    _ _ _ _ _ _ c.loop-join-test.true (c.has_several_providers-several.ensures ∙ ap (λ r. are_several (providers c.args.degrees.now.joins.now r)) c.of.ensures) refl (c.in_ok-mark.ensures q) (c.loop-join.invariant q)

pub returns : goal.returns
returns c = λ q. marked_all (λ j. same_port (port_of j.required) q && are_several (providers c.args.degrees.now.joins.now j.required)) c.args.degrees.now.joins.now c.loop-join.join-index _ _ c.loop-join-test.false (c.loop-join.invariant q)
