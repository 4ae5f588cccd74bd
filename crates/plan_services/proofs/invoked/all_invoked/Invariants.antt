use Rattle.std.proofs.Common.{◌≡◌, map, take}
use Rattle.plan_definitions.specs.Invoked.{invoked_in}
use Rattle.plan_services.proofs.invoked.all_invoked.Given as goal

abbrev pub invariant-loop-component : goal.invariant-loop-component
invariant-loop-component l = l.tables.items ≡ map invoked_in (take l.component-index l.d.components)
