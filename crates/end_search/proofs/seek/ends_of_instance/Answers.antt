use Rattle.description_types.specs.declared.description.PrototypeType.TheVariants.{Component}
use Rattle.composition_tables.specs.Ends.{ends}
use Rattle.end_search.specs.Wishes.{IsEnd}
use Rattle.end_search.proofs.Wishing.{found_of}
use Rattle.end_search.proofs.seek.ends_of_instance.Goals as goal

pub returns-clause-found : goal.returns-clause-found
returns-clause-found c = found_of c.args.wish.now.wanted (IsEnd c.args.tree.now.d.now c.args.wish.now.wanted 0 (Component c.args.component) c.args.first c.args.port)
    (ends c.args.tree.now.d.now 0 (Component c.args.component) c.args.first c.args.port) _ c.new-ends.result.keys c.new-ends.ensures.empty (λ x h. h.0) (λ x a h. (a, h)) c.in_ok-is_cut.ensures.found
