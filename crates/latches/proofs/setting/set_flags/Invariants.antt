use Rattle.std.proofs.Common.{◌≡◌, map}
use Rattle.std.specs.Vec.{vec_capacity}
use Rattle.latches.specs.Latches.{after_set}
use Rattle.latches.specs.Noted.{IsListed}
use Rattle.latches.proofs.setting.set_flags.Given as goal

abbrev pub invariant-loop-place : goal.invariant-loop-place
invariant-loop-place l = record {
  listed : IsListed l.group l.flags l.places.items;
  same : map (after_set l.group) l.flags ≡ map (after_set l.group) l.initial.flags;
  capacity : vec_capacity l.places ≡ vec_capacity l.initial.places;
}

abbrev pub decreases-loop-place : goal.decreases-loop-place
decreases-loop-place l = goal.left-loop-place l
