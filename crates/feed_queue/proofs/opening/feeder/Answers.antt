use Rattle.std.proofs.Common.{[]}
use Rattle.feed_queue.proofs.Steps.{forks_at}
use Rattle.feed_queue.proofs.opening.feeder.Goals as goal

pub another-mine-requires-clause-rule : goal.another-mine-requires-clause-rule
another-mine-requires-clause-rule g c = forks_at g.F.Feeding.lengths c.args.pass.now.id _ c.args.feed [] c.requires.pump
