use Rattle.std.proofs.Common.{◌≡◌, take}
use Rattle.plan_definitions.specs.Signatures.{signature}
use Rattle.component_rules.proofs.signatures.signature_of.Given as goal

abbrev pub invariant-loop-access : goal.invariant-loop-access
invariant-loop-access l = l.list.items ≡ signature l.types l.component (take l.access-index l.accesses)
