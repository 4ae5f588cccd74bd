use Rattle.std.proofs.Common.{sym, ap, option_map}
use Rattle.plan_definitions.specs.JoinedItems.{breaks, end_of, looked_at}
use Rattle.join_search.proofs.Firsts.{number_none}
use Rattle.join_search.proofs.items.Search.first_item.Goals as goal

pub returns-then-is_kept_at : goal.returns-then-is_kept_at
returns-then-is_kept_at c = sym (ap (option_map (end_of c.args.instance c.args.port))
    (number_none (λ n. breaks c.args.rule c.args.self.now.f.now.joins c.args.kind.now (end_of c.args.instance c.args.port n))
    (c.is_kept_at.ensures c.if-is_kept_at.true) 0 (looked_at c.args.rule c.args.kind.now)))
