use Rattle.outcome_laws.proofs.Flattened.{flattened}
use Rattle.outcome_laws.proofs.flat.descriptions_are_made_flat_or_refused.Goals as goal

pub returns : goal.returns
returns c = flattened
