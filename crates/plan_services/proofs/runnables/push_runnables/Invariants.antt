use Rattle.std.proofs.Common.{◌≡◌, [], ◌∷◌, ◌++◌, drop, map}
use Rattle.plan_definitions.specs.Common.{from, runnable_of, AreCoded}
use Rattle.bus_semantics.specs.Plan.{runnable_of as seen}
use Rattle.plan_services.proofs.runnables.push_runnables.Given as goal

abbrev pub invariant-loop-number : goal.invariant-loop-number
invariant-loop-number l = record {
  listed : map seen l.initial.list.items ++ from 0 (λ m r. runnable_of l.source.d.now l.source.f.now l.instance l.common.component.now m r ∷ []) l.runnables
      ≡ map seen l.list.items ++ from l.number (λ m r. runnable_of l.source.d.now l.source.f.now l.instance l.common.component.now m r ∷ []) (drop l.number l.runnables);
  coded : AreCoded l.source.d.now l.list.items;
}
