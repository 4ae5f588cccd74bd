use Rattle.feed_queue.proofs.Callable.{callable}
use Rattle.feed_queue.proofs.laws.feeds_give_what_may_be_called.Goals as goal

pub returns : goal.returns
returns c = callable
