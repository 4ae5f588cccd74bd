use Rattle.std.proofs.Common.{◌≡◌, map, take}
use Rattle.plan_definitions.specs.Callings.{call_key}
use Rattle.plan_services.proofs.listed_callings.call_keys.Given as goal

abbrev pub invariant-loop-calling : goal.invariant-loop-calling
invariant-loop-calling l = l.keys.items ≡ map call_key (take l.calling-index l.list)
