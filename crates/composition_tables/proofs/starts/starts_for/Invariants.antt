use Rattle.std.proofs.Common.{◌≡◌, ◌++◌, slice_index, drop}
use Rattle.description_types.specs.Places.{size_of}
use Rattle.composition_tables.specs.Trees.{running, starts_for}
use Rattle.composition_tables.proofs.starts.starts_for.Given as goal

abbrev pub invariant-loop-prototype : goal.invariant-loop-prototype
invariant-loop-prototype l = starts_for l.counts l.composition ≡ l.starts.items ++ running (size_of (slice_index l.counts)) l.total (drop l.prototype-index l.prototype-items)
