use Rattle.std.proofs.Common.{◌≡◌, ◌++◌, drop}
use Rattle.task_generator.specs.Servers.{in_places}
use Rattle.task_generator.proofs.around.in_places.Given as goal

abbrev pub invariant-loop-place : goal.invariant-loop-place
invariant-loop-place l = l.places.items ++ in_places l.place (drop l.place l.arguments) ≡ in_places 0 l.arguments
