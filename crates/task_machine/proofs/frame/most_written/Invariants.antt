use Rattle.std.proofs.Common.{◌≡◌, max, drop}
use Rattle.task_machine.specs.declared.instr.Body.{Body}
use Rattle.task_machine.specs.Frames.{most}
use Rattle.task_machine.proofs.frame.most_written.Given as goal

abbrev pub invariant-loop-body : goal.invariant-loop-body
invariant-loop-body l = max l.found (most (λ (b : Body). b.written) (drop l.body-index l.bodies)) ≡ most (λ (b : Body). b.written) l.bodies
