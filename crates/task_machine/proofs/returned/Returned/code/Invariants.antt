use Rattle.std.proofs.Common.{◌≡◌, drop}
use Rattle.bus_semantics.specs.Activations.{declared_code}
use Rattle.task_machine.proofs.returned.Returned.code.Given as goal

abbrev pub invariant-loop-code : goal.invariant-loop-code
invariant-loop-code l = declared_code (drop l.code-index l.self.errors) l.error ≡ declared_code l.self.errors l.error
