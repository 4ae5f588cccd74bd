use Rattle.std.proofs.Common.{◌≡◌, map, take}
use Rattle.plan_services.specs.Shared.{accesses_of, signature_in}
use Rattle.plan_services.proofs.signatures.signatures_in.Given as goal

abbrev pub invariant-loop-runnable : goal.invariant-loop-runnable
invariant-loop-runnable l = map accesses_of l.list.items ≡ map (signature_in l.types l.component) (take l.runnable-index l.runnables)
