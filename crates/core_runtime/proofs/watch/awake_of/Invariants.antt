use Rattle.std.proofs.Common.{take}
use Rattle.core_runtime.specs.Watching.{AllWatched}
use Rattle.core_runtime.proofs.watch.awake_of.Given as goal

abbrev pub invariant-loop-core : goal.invariant-loop-core
invariant-loop-core l = AllWatched (take l.core-index l.cores) l.awake.items
