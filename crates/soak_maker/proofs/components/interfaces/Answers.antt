use Rattle.soak_maker.proofs.Depths.{interfaces_shallow}
use Rattle.soak_maker.proofs.components.interfaces.Goals as goal

pub written-requires : goal.written-requires
written-requires c = interfaces_shallow
