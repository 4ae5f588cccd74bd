use Rattle.std.proofs.Common.{◌≡◌, map, take}
use Rattle.composition_tables.specs.Counts.{count_for}
use Rattle.composition_tables.proofs.counts.deeper_counts.Given as goal

abbrev pub invariant-loop-composition : goal.invariant-loop-composition
invariant-loop-composition l = l.deeper.items ≡ map (count_for l.counts) (take l.composition-index l.composition-items)
