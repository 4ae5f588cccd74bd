use Rattle.std.proofs.Common.{◌≡◌, ◌∷◌, ◌++◌, drop}
use Rattle.task_generator.proofs.targets.positions_of.Given as goal

abbrev pub invariant-loop-target : goal.invariant-loop-target
invariant-loop-target l = l.positions.items ++ drop l.target-index l.targets ≡ 0 ∷ l.targets
