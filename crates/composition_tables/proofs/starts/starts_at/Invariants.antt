use Rattle.std.proofs.Common.{◌≡◌, map, take}
use Rattle.composition_tables.specs.Trees.{starts_for, items_of}
use Rattle.composition_tables.proofs.starts.starts_at.Given as goal

abbrev pub invariant-loop-composition : goal.invariant-loop-composition
invariant-loop-composition l = map items_of l.starts.items ≡ map (starts_for l.counts) (take l.composition-index l.composition-items)
