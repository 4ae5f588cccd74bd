use Rattle.std.proofs.Common.{◌≡◌, ◌++◌, ◌-◌, map, Some}
use Rattle.plan_definitions.specs.Common.{positions, site}
use Rattle.plan_numbers.proofs.all_sites.push_sites.Given as goal

abbrev pub invariant-loop-item : goal.invariant-loop-item
invariant-loop-item l = l.initial.list.items ++ map (λ n. site l.owner (Some l.port) n l.kind) (positions 0 l.count)
    ≡ l.list.items ++ map (λ n. site l.owner (Some l.port) n l.kind) (positions l.item (l.count - l.item))
