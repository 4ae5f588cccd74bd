use Rattle.std.proofs.Common.{Some, None}
use Rattle.plan_definitions.specs.declared.site.SiteKind.TheVariants.{Variable}
use Rattle.plan_definitions.specs.Sites.{site}
use Rattle.plan_definitions.proofs.Turns.{one_more}
use Rattle.plan_numbers.proofs.all_sites.push_variables.Goals as goal

pub loop-item-preserved : goal.loop-item-preserved
loop-item-preserved c = one_more (λ n. site (Some c.args.instance) None n Variable) _ _ _ c.loop-item.item c.args.count c.loop-item-test.true c.in_ok-push_item.ensures c.loop-item.invariant
