use Rattle.std.proofs.Common.{◌++◌, take, drop, sym}
use Rattle.bus_semantics.specs.Common.{arc_value, option_copied}
use Rattle.task_machine.proofs.Settling.{resolved_at}
use Rattle.task_machine.proofs.instr.Body.at.Goals as goal

pub returns-clause-instr : goal.returns-clause-instr
returns-clause-instr c = let body = c.args.self.now in sym (resolved_at body.targets (take body.before body.around ++ ((arc_value body.code).instrs ++ drop body.before body.around)) c.args.place (option_copied c.found.result) (sym c.found.ensures.instr))
