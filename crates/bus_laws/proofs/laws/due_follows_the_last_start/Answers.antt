use Rattle.bus_laws.proofs.DueLaws as by
use Rattle.bus_laws.proofs.laws.due_follows_the_last_start.Goals as goal

pub returns : goal.returns
returns c = record { follows = λ starts happened h. (by.follows_where_computed starts happened h, by.computed_where_follows starts happened h) }
