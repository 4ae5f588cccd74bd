use Rattle.std.proofs.Common.{◌≡◌, drop}
use Rattle.plan_definitions.specs.Common.{first_of, unless, list_fits}
use Rattle.plan_definitions.specs.declared.spot.Spot.{Spot}
use Rattle.plan_definitions.specs.declared.spot.Spot.TheVariants as spot
use Rattle.component_rules.proofs.coherent.Items.first_broken.Given as goal

abbrev pub invariant-loop-list : goal.invariant-loop-list
invariant-loop-list l = first_of {Y = Spot} (λ k pairs. unless (list_fits l.types l.component l.self.runnable.now pairs) (spot.List l.runnable k)) 0 l.self.runnable.now.coherent
    ≡ first_of {Y = Spot} (λ k pairs. unless (list_fits l.types l.component l.self.runnable.now pairs) (spot.List l.runnable k)) l.list (drop l.list l.self.runnable.now.coherent)
