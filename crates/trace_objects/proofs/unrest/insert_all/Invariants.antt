use Rattle.std.proofs.Common.{◌≡◌, ◌<◌, ℕ, true, false, length, get_or, Some}
use Rattle.std.specs.List.{slice_get}
use Rattle.trace_objects.proofs.unrest.insert_all.Given as goal

abbrev pub invariant-loop-number : goal.invariant-loop-number
invariant-loop-number l = record {
  count : length l.set ≡ length l.initial.set;
  kept : (n : ℕ) → get_or l.set n false ≡ false → get_or l.initial.set n false ≡ false;
  inserted : (k n : ℕ) → k < l.number-index → slice_get l.numbers k ≡ Some n → n < length l.initial.set → get_or l.set n false ≡ true;
}
