use Rattle.std.proofs.Common.{sym, subst}
use Rattle.end_search.specs.Gates.{gate_ends}
use Rattle.end_crossing.specs.Crossings.{HasPairs}
use Rattle.end_crossing.proofs.Grouping.{adding_same}
use Rattle.end_crossing.proofs.crossing.add_both.Goals as goal

pub add_shared-added-requires-clause-matched : goal.add_shared-added-requires-clause-matched
add_shared-added-requires-clause-matched c =
    adding_same c.args.tree.now.d.now c.args.matched.now c.args.links.now.list.items c.requires.matched c.pairs.new.self c.in_ok-pairs.ensures.matched c.in_ok-pairs.ensures.done c.in_ok-pairs.ensures.crossed

pub add_shared-added-requires-clause-pairs : goal.add_shared-added-requires-clause-pairs
add_shared-added-requires-clause-pairs c = subst (HasPairs c.args.tree.now.d.now (gate_ends c.args.tree.now.d.now c.args.provided) (gate_ends c.args.tree.now.d.now c.args.required)) (sym c.as_slice.ensures.value)
    (λ p r a b i j join. c.in_ok-pairs.ensures.pairs p.interface r.interface (c.requires.first.covers p a) (c.requires.second.covers r b) i j join)
