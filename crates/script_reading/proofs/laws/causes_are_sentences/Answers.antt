use Rattle.script_reading.proofs.Causes.{cause_is_one, one_is_cause}
use Rattle.script_reading.proofs.laws.causes_are_sentences.Goals as goal

pub returns : goal.returns
returns c = λ p before t cause. (cause_is_one p before t cause, one_is_cause p before t cause)
