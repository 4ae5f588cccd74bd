use Rattle.std.proofs.Common.{arith}
use Rattle.cross_core_table.proofs.Hands.{unlocks_at}
use Rattle.cross_core_table.proofs.steps.unlock.Goals as goal

pub store-requires : goal.store-requires
store-requires c =
    let inside = c.requires.within in
    let words = c.requires.words in
    (c.requires.table, omega arith, unlocks_at _ _ _ _ _ c.args.object (omega arith) inside c.requires.holds)
