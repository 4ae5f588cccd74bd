use Rattle.task_generator.proofs.Few.{body_steps, instance_code, body_loops}
use Rattle.task_generator.proofs.laws.costs_bound_bodies.Goals as goal

pub returns-clause-steps : goal.returns-clause-steps
returns-clause-steps c = body_steps

pub returns-clause-code : goal.returns-clause-code
returns-clause-code c = instance_code

pub returns-clause-loops : goal.returns-clause-loops
returns-clause-loops c = body_loops
