use Rattle.std.proofs.Common.{sym, true≢false}
use Rattle.composition_flatten.proofs.Limiting.{too_many, counts_kept}
use Rattle.composition_flatten.proofs.limits.keeps_counts.Goals as goal

pub returns-then-count_below-gt-INSTANCE_LIMIT : goal.returns-then-count_below-gt-INSTANCE_LIMIT
returns-then-count_below-gt-INSTANCE_LIMIT c = ((λ h. absurd (true≢false (sym h))), (λ k. absurd (too_many c.args.d.now c.args.levels.now c.count_below.result c.requires c.count_below.ensures c.if-count_below-gt-INSTANCE_LIMIT.true k)))

pub returns : goal.returns
returns c = counts_kept c.args.d.now c.args.levels.now c.count_below.result c.names_env.result c.in_ok-is_deep.is_deep c.requires c.count_below.ensures c.if-count_below-gt-INSTANCE_LIMIT.false c.names_env.ensures c.if-names_env.false c.in_ok-is_deep.ensures
