use Rattle.std.proofs.Common.{◌≡◌, take}
use Rattle.plan_definitions.specs.Signatures.{arguments_of}
use Rattle.plan_services.proofs.arguments.words_of.Given as goal

abbrev pub invariant-loop-argument : goal.invariant-loop-argument
invariant-loop-argument l = l.list.items ≡ arguments_of l.types l.way (take l.argument-index l.arguments)
