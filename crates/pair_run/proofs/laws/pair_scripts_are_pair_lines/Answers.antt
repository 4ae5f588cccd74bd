use Rattle.pair_run.proofs.Scripts.{pair_lines}
use Rattle.pair_run.proofs.laws.pair_scripts_are_pair_lines.Goals as goal

pub returns : goal.returns
returns c = pair_lines
