use Rattle.soak_maker.proofs.Depths.{consumer_shallow}
use Rattle.soak_maker.proofs.components.consumer.Goals as goal

pub written-requires : goal.written-requires
written-requires c = consumer_shallow
