use Rattle.std.proofs.Common.{subst}
use Rattle.description_types.specs.Growing.{Grown}
use Rattle.composition_flatten.specs.Links.{IsOwnLink}
use Rattle.composition_tables.proofs.Growth.{grown_ordered}
use Rattle.composition_flatten.proofs.whole.own_of.Goals as goal

pub add_own-requires-clause-matched : goal.add_own-requires-clause-matched
add_own-requires-clause-matched c = c.begin.ensures _

pub returns-clause-own : goal.returns-clause-own
returns-clause-own c = subst (λ l. Grown (IsOwnLink c.args.tree.now.d.now c.args.depth c.args.composition) l c.put_in_order.new.links.list.items c.in_ok-is_full.is_full) c.no_links-found.ensures
    (grown_ordered (IsOwnLink c.args.tree.now.d.now c.args.depth c.args.composition) c.no_links-found.result.list.items c.add_own.new.links.list.items c.put_in_order.new.links.list.items c.in_ok-is_full.is_full c.in_ok-put_in_order.ensures.members c.in_ok-is_full.ensures.grown)
