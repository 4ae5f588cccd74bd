use Rattle.history_laws.proofs.Parting as by
use Rattle.history_laws.proofs.parts.legal_histories_part_into_objects.Goals as goal

pub returns : goal.returns
returns c = by.parts
