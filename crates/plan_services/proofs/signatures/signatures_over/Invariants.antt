use Rattle.std.proofs.Common.{◌≡◌, map, take}
use Rattle.plan_services.specs.Shared.{accesses_of, signature_in}
use Rattle.plan_services.proofs.signatures.signatures_over.Given as goal

abbrev pub invariant-loop-component : goal.invariant-loop-component
invariant-loop-component l = map (map accesses_of) l.lists.items ≡ map (λ c. map (signature_in l.types c) c.behavior.runnables) (take l.component-index l.components)
