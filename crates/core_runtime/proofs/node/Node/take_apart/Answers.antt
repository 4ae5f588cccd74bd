use Rattle.std.proofs.Common.{refl}
use Rattle.core_runtime.proofs.node.Node.take_apart.Goals as goal

pub returns-clause-parts : goal.returns-clause-parts
returns-clause-parts c = record {
  node = c.self.invariant.0;
  before = c.self.inside.live.cores.items;
  past = c.self.inside.live.objects.items;
  watched = c.self.invariant.1;
  tasks = refl;
}
