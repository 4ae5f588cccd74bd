use Rattle.outcome_laws.proofs.Scripts.{read_or_bad, read_or_bad_around}
use Rattle.outcome_laws.proofs.laws.bytes_are_a_script_or_have_a_bad_line.Goals as goal

pub returns : goal.returns
returns c = record { over_plans = read_or_bad; around = read_or_bad_around }
