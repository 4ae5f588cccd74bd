use Rattle.soak_maker.proofs.Depths.{producer_shallow}
use Rattle.soak_maker.proofs.components.producer.Goals as goal

pub written-requires : goal.written-requires
written-requires c = producer_shallow
