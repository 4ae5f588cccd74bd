use Rattle.description_types.specs.declared.description.PrototypeType.TheVariants.{Composition}
use Rattle.composition_tables.specs.Ends.{ends}
use Rattle.end_search.specs.Wishes.{IsEnd}
use Rattle.end_search.proofs.Wishing.{found_of, sought_single}
use Rattle.end_search.proofs.seek.ends_from_zero.Goals as goal

pub returns-clause-found : goal.returns-clause-found
returns-clause-found c =
    let d = c.args.tree.now.d.now in
    let w = c.args.wish.now.wanted in
    found_of w (IsEnd d w c.args.depth (Composition c.args.composition) 0 c.args.port) (ends d c.args.depth (Composition c.args.composition) 0 c.args.port) _ c.new-ends.result.keys c.new-ends.ensures.empty
    (λ x a. a.0) (λ x a h. (a, h))
    (sought_single (IsEnd d w c.args.depth (Composition c.args.composition) 0) c.args.port c.new-ends.result.keys c.seek.new.found.keys c.in_ok-is_cut.is_cut c.in_ok-is_cut.ensures.found)
