use Rattle.end_search.specs.Tables.{item_names}
use Rattle.end_search.proofs.Lookups.{few_named}
use Rattle.end_search.proofs.interfaces.with_names.Goals as goal

pub of-requires : goal.of-requires
of-requires c = few_named c.in_ok-list.list.items (item_names c.args.kind.now) c.in_ok-list.ensures c.requires
