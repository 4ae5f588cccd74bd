use Rattle.signal_link.proofs.Streams.{same_find}
use Rattle.signal_link.proofs.laws.answers_are_one.Goals as goal

pub returns : goal.returns
returns c = λ u piece found other words one two. same_find u.links u.begun piece found other words one two
