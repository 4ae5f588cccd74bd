use Rattle.std.proofs.Common.{arith}
use Rattle.declared_names.proofs.Reading.{short_few}
use Rattle.commands.specs.Commands.{plan}
use Rattle.commands.specs.PlanCommand.{IsPlanFinding}
use Rattle.commands.proofs.Judging as by
use Rattle.rte_program.proofs.plan.plan_file.Goals as goal

pub plan_bytes-requires : goal.plan_bytes-requires
plan_bytes-requires g c = let fits = c.requires in short_few c.args.description.now (omega (arith, fits))

pub report-requires : goal.report-requires
report-requires g c = by.plan_short c.args.description.now c.in-Err.stop c.in-Err.ensures.stopped

pub returns-in-Ok : goal.returns-in-Ok
returns-in-Ok g c = λ d. by.planned d _ c.in-Ok.found c.in-Ok.ensures.planned c.print_plan-status.result _ _ _ _ c.print_plan-status.ensures

pub returns-in-Err : goal.returns-in-Err
returns-in-Err g c = λ d. by.stopped (plan d) _ (IsPlanFinding c.args.description.now) (λ found is. is) c.report.result _ _ _ _ c.in-Err.stop c.in-Err.ensures.stopped c.report.ensures
