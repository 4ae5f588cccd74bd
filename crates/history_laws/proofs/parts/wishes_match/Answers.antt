use Rattle.history_laws.proofs.Lifting as by
use Rattle.history_laws.proofs.parts.wishes_match.Goals as goal

pub returns-clause-wish : goal.returns-clause-wish
returns-clause-wish c = by.wish_fine

pub returns-clause-start : goal.returns-clause-start
returns-clause-start c = by.start_fine
