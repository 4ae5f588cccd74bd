use Rattle.std.proofs.Common.{◌≡◌, ◌<◌, ℕ, Bool, true, length, Some}
use Rattle.std.specs.List.{slice_get}
use Rattle.core_turn.proofs.rousing.fill.Given as goal

abbrev pub invariant-loop-place : goal.invariant-loop-place
invariant-loop-place l = record {
  count : length l.places ≡ l.count;
  all : (i : ℕ) (x : Bool) → i < l.place → slice_get l.places i ≡ Some x → x ≡ true;
}
