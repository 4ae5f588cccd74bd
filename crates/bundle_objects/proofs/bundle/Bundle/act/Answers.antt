use Rattle.std.proofs.Common.{ap}
use Rattle.object_kinds.specs.Common.{acted}
use Rattle.bundle_objects.proofs.bundle.Bundle.act.Goals as goal

pub returns-clause-same : goal.returns-clause-same
returns-clause-same c = λ shown is. c.act_by_wish.ensures.same shown (ap (λ r. acted r c.act_by_wish.new.out) is)

pub returns-clause-only : goal.returns-clause-only
returns-clause-only c = λ is. c.act_by_wish.ensures.only c.act_by_wish.new.out (ap (λ r. acted r c.act_by_wish.new.out) is)

pub returns-clause-left : goal.returns-clause-left
returns-clause-left c = λ is. c.act_by_wish.ensures.left c.act_by_wish.new.out (ap (λ r. acted r c.act_by_wish.new.out) is)
