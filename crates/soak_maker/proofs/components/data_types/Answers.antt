use Rattle.soak_maker.proofs.Depths.{data_types_shallow}
use Rattle.soak_maker.proofs.components.data_types.Goals as goal

pub written-requires : goal.written-requires
written-requires c = data_types_shallow
