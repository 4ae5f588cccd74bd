use Rattle.std.proofs.Common.{subst}
use Rattle.end_search.specs.Tables.{AreGroups}
use Rattle.end_search.proofs.sides.side_with.Goals as goal

pub returns-clause-groups : goal.returns-clause-groups
returns-clause-groups c = subst (λ l. AreGroups l c.in_ok-groups.groups) c.as_slice.ensures.keys c.in_ok-groups.ensures
