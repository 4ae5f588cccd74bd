use Rattle.std.proofs.Common.{◌≡◌, map, take}
use Rattle.plan_elements.proofs.runnable_lists.runnables_in.Given as goal

abbrev pub invariant-loop-list : goal.invariant-loop-list
invariant-loop-list l = l.numbers.items ≡ map (λ c. c.runnable) (take l.list-index l.lists)
