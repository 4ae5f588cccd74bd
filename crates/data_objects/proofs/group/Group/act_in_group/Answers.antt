use Rattle.std.proofs.Common.{ap}
use Rattle.bus_semantics.specs.Common.{plan_of, wanted_of}
use Rattle.object_kinds.specs.Common.{acted}
use Rattle.data_objects.proofs.Acting.{acted_answers, acted_planned, acted_same}
use Rattle.data_objects.proofs.group.Group.act_in_group.Goals as goal

pub returns-clause-answer : goal.returns-clause-answer
returns-clause-answer c = λ g inside planned.
    acted_answers (plan_of c.args.p.now) g c.args.who.now (wanted_of c.args.wish.now) c.args.self.now c.act_by_wish.new.self (acted c.act_by_wish.result c.act_by_wish.new.out) planned (c.act_by_wish.ensures.acted g inside)

pub returns-clause-planned : goal.returns-clause-planned
returns-clause-planned c = λ g inside planned.
    acted_planned (plan_of c.args.p.now) g c.args.who.now (wanted_of c.args.wish.now) c.args.self.now c.act_by_wish.new.self (acted c.act_by_wish.result c.act_by_wish.new.out) planned (c.act_by_wish.ensures.acted g inside)

pub returns-clause-same : goal.returns-clause-same
returns-clause-same c = λ g inside shown is.
    acted_same (plan_of c.args.p.now) g c.args.who.now (wanted_of c.args.wish.now) c.args.self.now c.act_by_wish.new.self (acted c.act_by_wish.result c.act_by_wish.new.out) shown (ap (λ r. acted r c.act_by_wish.new.out) is) (c.act_by_wish.ensures.acted g inside)
