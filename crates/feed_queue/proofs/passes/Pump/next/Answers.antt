use Rattle.feed_queue.proofs.Steps.{pops_at}
use Rattle.feed_queue.proofs.passes.Pump.next.Goals as goal

pub pop_as-requires-clause-rule : goal.pop_as-requires-clause-rule
pop_as-requires-clause-rule g c = let me = c.args.self.now in pops_at g.F.Feeding.lengths me.pass.id _ me.order.items me.pumps
