use Rattle.std.proofs.Common.{false, sym}
use Rattle.trace_walks.proofs.Going.{passed}
use Rattle.trace_walks.proofs.walk.Walk.release.Goals as goal

pub returns-clause-stands : goal.returns-clause-stands
returns-clause-stands c = λ t p k h e other free stands. passed t p k h e other c.args.self.now false (sym free) stands
