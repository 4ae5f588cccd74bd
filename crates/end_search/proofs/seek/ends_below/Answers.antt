use Rattle.std.proofs.lemmas.Result.{IfOk-weaker}
use Rattle.description_types.specs.declared.description.PrototypeType.TheVariants.{Composition}
use Rattle.composition_tables.specs.Ends.{ends}
use Rattle.end_search.specs.declared.seek.Found.{Found}
use Rattle.end_search.specs.Wishes.{AreFound, IsCutBelow}
use Rattle.end_search.proofs.seek.ends_below.Goals as goal

pub returns-clause-found : goal.returns-clause-found
returns-clause-found c =
    let d = c.args.tree.now.d.now in
    let w = c.args.wish.now.wanted in
    IfOk-weaker c.ends_moved-found.result _ (AreFound w (ends d c.args.depth (Composition c.args.composition) c.args.first c.args.port))
    (λ found moved. moved d w c.args.depth (Composition c.args.composition) c.args.port c.in_ok-near.ensures.found) c.ends_moved-found.ensures.found

pub returns-clause-cut : goal.returns-clause-cut
returns-clause-cut c = IfOk-weaker c.ends_moved-found.result _ (λ (found : Found). IsCutBelow c.args.wish.now.limit found.is_cut) (λ found cut. cut c.in_ok-near.ensures.cut) c.ends_moved-found.ensures.cut
