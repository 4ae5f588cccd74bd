use Rattle.std.proofs.Common.{◌≡◌, length}
use Rattle.bus_semantics.specs.Plan.{plan_of}
use Rattle.core_runtime.specs.Nodes.{AreNewCores}
use Rattle.core_runtime.proofs.making.cores_of.Given as goal

abbrev pub invariant-loop-number : goal.invariant-loop-number
invariant-loop-number l = record { count : length l.cores.items ≡ l.number; cores : AreNewCores (plan_of l.p) l.m l.t l.cores.items }
