use Rattle.outcome_laws.proofs.Whole.{has_outcome}
use Rattle.outcome_laws.proofs.laws.bytes_have_a_plan_or_a_refusal.Goals as goal

pub returns : goal.returns
returns c = has_outcome c.read_descriptions_are_well_formed.ensures c.descriptions_are_made_flat_or_refused.ensures c.plans_are_sound.ensures
