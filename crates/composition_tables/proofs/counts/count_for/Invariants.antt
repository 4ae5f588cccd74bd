use Rattle.std.proofs.Common.{◌≡◌, ◌+◌, ◌≤◌, min, slice_index, drop}
use Rattle.composition_tables.specs.Counts.{count_for}
use Rattle.description_types.specs.Places.{size_of}
use Rattle.description_types.specs.Members.{sum_of}
use Rattle.composition_tables.proofs.counts.count_for.Given as goal

abbrev pub invariant-loop-prototype : goal.invariant-loop-prototype
invariant-loop-prototype l = record {
  is_capped : l.total ≤ 1025;
  is_left : min (l.total + sum_of (λ p. size_of (slice_index l.counts) p.of_type) (drop l.prototype-index l.prototype-items)) 1025 ≡ count_for l.counts l.composition;
}
