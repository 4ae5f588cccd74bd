use Rattle.std.proofs.Common.{◌≡◌, drop, Some, None, if◌then◌else◌}
use Rattle.plan_definitions.specs.Common.{joins_compatible, first_of}
use Rattle.join_search.specs.Passed.{HavePassed}
use Rattle.join_search.proofs.connectors.incompatible_in.Given as goal

abbrev pub invariant-loop-position : goal.invariant-loop-position
invariant-loop-position l = HavePassed l.judge.types.now l.passed.keys
    × (first_of (λ m k. if joins_compatible l.d l.composition k then None else Some m) 0 l.composition.connectors
    ≡ first_of (λ m k. if joins_compatible l.d l.composition k then None else Some m) l.position (drop l.position l.composition.connectors))
