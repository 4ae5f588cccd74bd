use Rattle.bus_semantics.specs.Plan.{plan_of}
use Rattle.task_generator.proofs.Publications.{publications_more}
use Rattle.task_generator.proofs.around.put_publications.Goals as goal

pub loop-publication-preserved : goal.loop-publication-preserved
loop-publication-preserved c =
    publications_more (plan_of c.args.p.now) c.args.elements.now c.args.publications.now c.loop-publication.publication-index _ _ _ _ c.loop-publication-test.true c.in_ok-put_publication.ensures c.loop-publication.invariant
