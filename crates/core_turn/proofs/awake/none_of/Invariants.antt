use Rattle.std.proofs.Common.{◌≡◌, length}
use Rattle.place_set.specs.Places.{NoneBetween}
use Rattle.core_turn.proofs.awake.none_of.Given as goal

abbrev pub invariant-loop-place : goal.invariant-loop-place
invariant-loop-place l = record { count : length l.none ≡ l.len; none : NoneBetween l.none 0 l.place }
