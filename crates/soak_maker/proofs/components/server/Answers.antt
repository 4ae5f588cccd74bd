use Rattle.soak_maker.proofs.Depths.{server_shallow}
use Rattle.soak_maker.proofs.components.server.Goals as goal

pub written-requires : goal.written-requires
written-requires c = server_shallow
