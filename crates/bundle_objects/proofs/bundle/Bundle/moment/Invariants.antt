use Rattle.std.proofs.Common.{◌≡◌, take}
use Rattle.bus_semantics.specs.Plan.{plan_of}
use Rattle.bundle_objects.specs.Leading.{moment_in}
use Rattle.bundle_objects.proofs.bundle.Bundle.moment.Given as goal

abbrev pub invariant-loop-elem : goal.invariant-loop-elem
invariant-loop-elem l = l.words.items ≡ moment_in (plan_of l.p) l.self.kept (take l.elem-index l.elems)
