use Rattle.std.proofs.Common.{◌≡◌, ◌<◌, ◌==◌, ℕ, length, take}
use Rattle.std.specs.Prelude.{slice_index}
use Rattle.std.specs.List.{count_by}
use Rattle.latches.proofs.making.sizes_of.Given as goal

abbrev pub invariant-loop-group : goal.invariant-loop-group
invariant-loop-group l = record {
  long : length l.sizes.items ≡ l.count;
  sizes : (group : ℕ) → group < l.count → slice_index l.sizes.items group ≡ count_by (λ g. g == group) (take l.group-index l.groups);
}
