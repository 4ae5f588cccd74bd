use Rattle.cross_core_table.proofs.Hands.{stamps_on_named}
use Rattle.cross_core_table.proofs.steps.stamp_on_as.Goals as goal

pub fetch_add-requires : goal.fetch_add-requires
fetch_add-requires g c = (
  c.requires.table,
  c.requires.words,
  stamps_on_named _ _ _ _ c.args.object _ _ _ _ c.requires.named.0 c.requires.named.1 c.requires.opening c.requires.holds c.requires.touching c.requires.room,
)
