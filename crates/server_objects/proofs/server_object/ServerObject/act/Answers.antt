use Rattle.std.proofs.Common.{ap, subst}
use Rattle.bus_semantics.specs.Wanted.{wanted_of}
use Rattle.object_kinds.specs.Kinds.{acted}
use Rattle.server_objects.specs.Acting.{IsActed}
use Rattle.server_objects.proofs.Acted.{acted_answers, acted_planned, acted_tells, acted_heard}
use Rattle.server_objects.proofs.server_object.ServerObject.act.Goals as goal

pub returns-clause-answer : goal.returns-clause-answer
returns-clause-answer c = λ p object planned.
    acted_answers c.args.who.now (wanted_of c.args.wish.now) c.args.self.now c.act_by_wish.new.self (acted c.act_by_wish.result c.act_by_wish.new.out) p object planned c.act_by_wish.ensures

pub returns-clause-planned : goal.returns-clause-planned
returns-clause-planned c = λ p object planned.
    acted_planned c.args.who.now (wanted_of c.args.wish.now) c.args.self.now c.act_by_wish.new.self (acted c.act_by_wish.result c.act_by_wish.new.out) p object planned c.act_by_wish.ensures

pub returns-clause-told : goal.returns-clause-told
returns-clause-told c = acted_tells c.args.who.now (wanted_of c.args.wish.now) c.args.self.now c.act_by_wish.new.self (acted c.act_by_wish.result c.act_by_wish.new.out) c.act_by_wish.ensures

pub returns-clause-heard : goal.returns-clause-heard
returns-clause-heard c = acted_heard c.args.who.now (wanted_of c.args.wish.now) c.args.self.now c.act_by_wish.new.self (acted c.act_by_wish.result c.act_by_wish.new.out) c.act_by_wish.ensures

pub returns-clause-same : goal.returns-clause-same
returns-clause-same c = λ shown is. (subst (IsActed c.args.who.now (wanted_of c.args.wish.now) c.args.self.now c.act_by_wish.new.self) (ap (λ r. acted r c.act_by_wish.new.out) is) c.act_by_wish.ensures).same

pub returns-clause-only : goal.returns-clause-only
returns-clause-only c = λ is. (subst (IsActed c.args.who.now (wanted_of c.args.wish.now) c.args.self.now c.act_by_wish.new.self) (ap (λ r. acted r c.act_by_wish.new.out) is) c.act_by_wish.ensures).told.only

pub returns-clause-left : goal.returns-clause-left
returns-clause-left c = λ is. (subst (IsActed c.args.who.now (wanted_of c.args.wish.now) c.args.self.now c.act_by_wish.new.self) (ap (λ r. acted r c.act_by_wish.new.out) is) c.act_by_wish.ensures).told.left
