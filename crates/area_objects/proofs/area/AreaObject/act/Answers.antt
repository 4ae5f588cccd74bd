use Rattle.std.proofs.Common.{sym, subst}
use Rattle.bus_semantics.specs.Wanted.{wanted_of}
use Rattle.object_kinds.specs.Common.{IsAnswerOf, acted}
use Rattle.area_objects.specs.Kept.{may_start}
use Rattle.area_objects.specs.Leading.{lead, why_held}
use Rattle.area_objects.proofs.area.AreaObject.act.Goals as goal

pub returns-in-Enter-clause-answer : goal.returns-in-Enter-clause-answer
returns-in-Enter-clause-answer c = λ p.
    subst (λ w. IsAnswerOf p lead may_start why_held c.args.who.now (wanted_of w) c.args.self.now c.enter.new.self (acted c.enter.result c.enter.new.out)) (sym c.in-Enter.is) (c.enter.ensures p)

pub returns-in-Leave-clause-answer : goal.returns-in-Leave-clause-answer
returns-in-Leave-clause-answer c = λ p.
    subst (λ w. IsAnswerOf p lead may_start why_held c.args.who.now (wanted_of w) c.args.self.now c.leave.new.self (acted c.leave.result c.leave.new.out)) (sym c.in-Leave.is) (c.leave.ensures p)
