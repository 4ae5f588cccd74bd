use Rattle.std.proofs.Common.{arith}
use Rattle.cross_core_table.proofs.Keeping.{locks}
use Rattle.cross_core_table.proofs.Hands.{has_tried}
use Rattle.cross_core_table.proofs.steps.try_lock.Goals as goal

pub compare_exchange-requires : goal.compare_exchange-requires
compare_exchange-requires c =
    let idle = c.requires.idle in
    let inside = c.requires.within in
    let words = c.requires.words in
    (c.requires.table, omega arith, locks c.args.top.now.key _ _ _ _ c.args.object _ (omega arith) (omega (arith, idle.number)) inside idle.opening idle.held)

pub returns-clause-tried : goal.returns-clause-tried
returns-clause-tried c = has_tried _ _ _ _ _ _ c.requires.idle (c.compare_exchange.ensures.2 c.args.object (omega arith))
