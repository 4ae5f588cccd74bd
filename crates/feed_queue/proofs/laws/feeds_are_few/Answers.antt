use Rattle.feed_queue.proofs.Few.{few}
use Rattle.feed_queue.proofs.laws.feeds_are_few.Goals as goal

pub returns : goal.returns
returns c = few
