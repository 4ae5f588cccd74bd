use Rattle.std.proofs.Common.{ap, subst}
use Rattle.bus_semantics.specs.Wanted.{wanted_of}
use Rattle.object_kinds.specs.Kinds.{acted}
use Rattle.machine_objects.specs.Acting.{IsActed}
use Rattle.machine_objects.proofs.Acted.{acted_answers, acted_planned, acted_tells}
use Rattle.machine_objects.proofs.machine_object.MachineObject.act.Goals as goal

pub returns-clause-planned : goal.returns-clause-planned
returns-clause-planned c = λ p object asked. acted_planned p object c.args.who.now (wanted_of c.args.wish.now) c.args.self.now c.act_by_wish.new.self (acted c.act_by_wish.result c.act_by_wish.new.out) asked c.act_by_wish.ensures

pub returns-clause-answer : goal.returns-clause-answer
returns-clause-answer c = λ p object asked. acted_answers p object c.args.who.now (wanted_of c.args.wish.now) c.args.self.now c.act_by_wish.new.self (acted c.act_by_wish.result c.act_by_wish.new.out) asked c.act_by_wish.ensures

pub returns-clause-same : goal.returns-clause-same
returns-clause-same c = λ shown is. (subst (IsActed c.args.who.now (wanted_of c.args.wish.now) c.args.self.now c.act_by_wish.new.self) (ap (λ r. acted r c.act_by_wish.new.out) is) c.act_by_wish.ensures).same

pub returns-clause-told : goal.returns-clause-told
returns-clause-told c = acted_tells c.args.who.now (wanted_of c.args.wish.now) c.args.self.now c.act_by_wish.new.self (acted c.act_by_wish.result c.act_by_wish.new.out) c.act_by_wish.ensures

pub returns-clause-only : goal.returns-clause-only
returns-clause-only c = λ is. (subst (IsActed c.args.who.now (wanted_of c.args.wish.now) c.args.self.now c.act_by_wish.new.self) (ap (λ r. acted r c.act_by_wish.new.out) is) c.act_by_wish.ensures).told.only

pub returns-clause-left : goal.returns-clause-left
returns-clause-left c = λ is. (subst (IsActed c.args.who.now (wanted_of c.args.wish.now) c.args.self.now c.act_by_wish.new.self) (ap (λ r. acted r c.act_by_wish.new.out) is) c.act_by_wish.ensures).told.left
