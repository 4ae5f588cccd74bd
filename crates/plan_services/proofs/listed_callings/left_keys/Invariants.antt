use Rattle.std.proofs.Common.{◌≡◌, map, take}
use Rattle.plan_definitions.specs.Callings.{left_key}
use Rattle.plan_services.proofs.listed_callings.left_keys.Given as goal

abbrev pub invariant-loop-calling : goal.invariant-loop-calling
invariant-loop-calling l = l.keys.items ≡ map left_key (take l.calling-index l.list)
