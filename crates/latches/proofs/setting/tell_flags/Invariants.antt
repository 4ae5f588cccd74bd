use Rattle.std.proofs.Common.{◌≡◌, ◌≤◌, ◌+◌, ◌⊎◌, ℕ, length, map}
use Rattle.std.specs.List.{Contains, count_by}
use Rattle.std.specs.Vec.{vec_capacity}
use Rattle.latches.specs.Latches.{IsNamedIn, after_set, is_clear}
use Rattle.latches.specs.Noted.{IsListed}
use Rattle.latches.proofs.Told.{Stays, Tells}
use Rattle.latches.proofs.setting.tell_flags.Given as goal

abbrev pub invariant-loop-place : goal.invariant-loop-place
invariant-loop-place l = record {
  listed : IsListed l.group l.flags l.places.items;
  same : map (after_set l.group) l.flags ≡ map (after_set l.group) l.initial.flags;
  capacity : vec_capacity l.places ≡ vec_capacity l.initial.places;
  tells : Tells l.group l.names l.initial.flags l.flags l.told.items;
  stays : Stays l.initial.flags l.flags;
  only : (name : ℕ) → Contains l.told.items name → Contains l.initial.told.items name ⊎ IsNamedIn l.group l.initial.flags l.names name;
  kept : (name : ℕ) → Contains l.initial.told.items name → Contains l.told.items name;
  room : length l.told.items + count_by is_clear l.flags ≤ length l.initial.told.items + count_by is_clear l.initial.flags;
  told_capacity : vec_capacity l.told ≡ vec_capacity l.initial.told;
}

abbrev pub decreases-loop-place : goal.decreases-loop-place
decreases-loop-place l = goal.left-loop-place l
