use Rattle.std.proofs.Common.{◌≡◌, ◌++◌, ◌-◌, map, Some, None}
use Rattle.plan_definitions.specs.Common.{positions, site}
use Rattle.plan_definitions.specs.declared.site.SiteKind.TheVariants.{Variable}
use Rattle.plan_numbers.proofs.all_sites.push_variables.Given as goal

abbrev pub invariant-loop-item : goal.invariant-loop-item
invariant-loop-item l = l.initial.list.items ++ map (λ n. site (Some l.instance) None n Variable) (positions 0 l.count)
    ≡ l.list.items ++ map (λ n. site (Some l.instance) None n Variable) (positions l.item (l.count - l.item))
