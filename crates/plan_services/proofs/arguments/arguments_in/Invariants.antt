use Rattle.std.proofs.Common.{◌≡◌, map, take}
use Rattle.plan_definitions.specs.Services.{argument_of}
use Rattle.plan_services.proofs.arguments.arguments_in.Given as goal

abbrev pub invariant-loop-argument : goal.invariant-loop-argument
invariant-loop-argument l = l.list.items ≡ map (argument_of l.d) (take l.argument-index l.arguments)
