use Rattle.std.proofs.Common.{ℕ, ◌<◌}
use Rattle.description_types.specs.Connectors.{IsBrokenConnector}
use Rattle.composition_flatten.proofs.wiring.first_broken.Given as goal

abbrev pub invariant-loop-composition : goal.invariant-loop-composition
invariant-loop-composition l = (c m : ℕ) → c < l.composition → ¬ IsBrokenConnector l.d c m
