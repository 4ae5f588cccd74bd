use Rattle.std.proofs.Common.{◌≡◌, map, take}
use Rattle.mapping_rules.specs.Listed.{invoked_in}
use Rattle.mapping_rules.proofs.servers.invocations_of.Given as goal

abbrev pub invariant-loop-component : goal.invariant-loop-component
invariant-loop-component l = map (λ t. t.entries.items) l.list.items ≡ map invoked_in (take l.component-index l.components)
