use Rattle.script_run.proofs.Sessions.{run_from_nothing}
use Rattle.script_run.proofs.laws.runs_from_nothing_are_runs.Goals as goal

pub returns : goal.returns
returns c = run_from_nothing
