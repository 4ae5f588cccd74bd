use Rattle.std.proofs.Common.{◌≡◌, drop}
use Rattle.description_types.specs.Lists.{from, unless, first}
use Rattle.description_types.specs.Refusals.{is_sound, broken_among}
use Rattle.description_types.proofs.check.first_broken_among.Given as goal

abbrev pub invariant-loop-position : goal.invariant-loop-position
invariant-loop-position l =
    first (from l.position (λ j o. unless (is_sound l.types o) (l.interface, j)) (drop l.position l.operations)) ≡ first (broken_among l.types l.interface l.operations)
