use Rattle.mapping_rules.proofs.Reached.{order_decided}
use Rattle.mapping_rules.proofs.check.are_ordered.Goals as goal

pub returns : goal.returns
returns c = order_decided c.args.servers.now.mapped.now.names.d.now c.args.servers.now.mapped.now.names.f.now c.in_ok-edges.edges.items c.in_ok-edges.ensures c.in_ok-answer.answer c.in_ok-answer.ensures
