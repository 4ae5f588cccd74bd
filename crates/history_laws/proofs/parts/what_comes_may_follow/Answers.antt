use Rattle.history_laws.proofs.Lifting as by
use Rattle.history_laws.proofs.parts.what_comes_may_follow.Goals as goal

pub returns-clause-wish : goal.returns-clause-wish
returns-clause-wish c = by.wish_follows

pub returns-clause-entry : goal.returns-clause-entry
returns-clause-entry c = by.entry_follows
