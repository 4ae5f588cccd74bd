use Rattle.description_types.specs.declared.description.PrototypeType.TheVariants.{Composition}
use Rattle.composition_tables.specs.Ends.{ends}
use Rattle.end_search.specs.declared.seek.Wanted.TheVariants.{Anything}
use Rattle.end_search.specs.Wishes.{IsEnd}
use Rattle.end_search.proofs.Wishing.{found_of}
use Rattle.end_search.proofs.near.few_below.Goals as goal

pub returns-clause-found : goal.returns-clause-found
returns-clause-found c = found_of Anything (IsEnd c.args.tree.now.d.now Anything c.args.depth (Composition c.args.composition) c.args.first c.args.port)
    (ends c.args.tree.now.d.now c.args.depth (Composition c.args.composition) c.args.first c.args.port) _ c.new-ends.result.keys c.new-ends.ensures.empty
    (λ x a. a.0) (λ x a h. (a, h)) (c.in_ok-is_cut.ensures c.args.tree.now.d.now Anything c.in_ok-keep_few.ensures)
