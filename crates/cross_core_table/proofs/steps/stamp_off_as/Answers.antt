use Rattle.cross_core_table.proofs.Hands.{stamps_off_named}
use Rattle.cross_core_table.proofs.steps.stamp_off_as.Goals as goal

pub fetch_add-requires : goal.fetch_add-requires
fetch_add-requires g c = (c.requires.table, c.requires.words, stamps_off_named _ _ _ _ _ _ c.requires.named c.requires.opening c.requires.alone c.requires.room)
