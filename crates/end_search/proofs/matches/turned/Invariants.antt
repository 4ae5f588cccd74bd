use Rattle.std.proofs.Common.{◌≡◌, take}
use Rattle.end_search.specs.Matching.{turned}
use Rattle.end_search.proofs.matches.turned.Given as goal

abbrev pub invariant-loop-pair : goal.invariant-loop-pair
invariant-loop-pair l = l.list.items ≡ turned (take l.pair-index l.pairs)
