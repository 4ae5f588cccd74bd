use Rattle.std.specs.Prelude.{IfNone, IfSome}
use Rattle.std.proofs.Common.{subst}
use Rattle.description_types.specs.Growing.{IsPastLimit}
use Rattle.description_types.specs.Joined.{IsJoined}
use Rattle.composition_flatten.specs.Within.{AreJoins}
use Rattle.composition_flatten.proofs.limits.joins_over.Goals as goal

pub returns-clause-none : goal.returns-clause-none
returns-clause-none c = subst (λ d. IfNone c.in_ok-joins.joins (IsPastLimit (IsJoined d))) c.in_ok-tree.ensures.same c.in_ok-joins.ensures.none

pub returns-clause-some : goal.returns-clause-some
returns-clause-some c = subst (λ d. IfSome c.in_ok-joins.joins (λ joins. AreJoins d joins.items)) c.in_ok-tree.ensures.same c.in_ok-joins.ensures.some
