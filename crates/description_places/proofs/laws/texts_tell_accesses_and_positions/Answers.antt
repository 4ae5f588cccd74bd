use Rattle.description_places.proofs.Texts as by
use Rattle.description_places.proofs.laws.texts_tell_accesses_and_positions.Goals as goal

pub returns-clause-accesses : goal.returns-clause-accesses
returns-clause-accesses c = by.parts_told

pub returns-clause-positions : goal.returns-clause-positions
returns-clause-positions c = by.position_told
