use Rattle.std.proofs.Common.{◌≡◌, take}
use Rattle.plan_definitions.specs.Signatures.{arguments_of}
use Rattle.component_rules.proofs.signatures.arguments_of.Given as goal

abbrev pub invariant-loop-argument : goal.invariant-loop-argument
invariant-loop-argument l = l.words.items ≡ arguments_of l.types l.way (take l.argument-index l.arguments)
