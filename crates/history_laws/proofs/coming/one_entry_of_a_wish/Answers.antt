use Rattle.history_laws.proofs.OneEntry as by
use Rattle.history_laws.proofs.coming.one_entry_of_a_wish.Goals as goal

pub returns : goal.returns
returns c = by.one_entry
