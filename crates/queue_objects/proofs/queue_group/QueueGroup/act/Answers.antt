use Rattle.std.proofs.Common.{ap, subst}
use Rattle.bus_semantics.specs.Common.{plan_of, wanted_of, touched}
use Rattle.object_kinds.specs.Common.{acted, group_at}
use Rattle.queue_objects.specs.Acting.{IsActed}
use Rattle.queue_objects.proofs.Acting.{acted_answers, acted_planned, acted_tells}
use Rattle.queue_objects.proofs.queue_group.QueueGroup.act.Goals as goal

pub returns-clause-answer : goal.returns-clause-answer
returns-clause-answer c =
    let p = plan_of c.args.p.now in
    let w = wanted_of c.args.wish.now in
    acted_answers p (group_at p (touched p c.args.who.now w)) c.args.who.now w c.args.self.now c.act_by_wish.new.self (acted c.act_by_wish.result c.act_by_wish.new.out) c.requires.planned.group c.act_by_wish.ensures

pub returns-clause-planned : goal.returns-clause-planned
returns-clause-planned c =
    let p = plan_of c.args.p.now in
    let w = wanted_of c.args.wish.now in
    record {
      alone = c.requires.planned.alone;
      group = acted_planned p (group_at p (touched p c.args.who.now w)) c.args.who.now w c.args.self.now c.act_by_wish.new.self (acted c.act_by_wish.result c.act_by_wish.new.out) c.requires.planned.group c.act_by_wish.ensures;
    }

pub returns-clause-told : goal.returns-clause-told
returns-clause-told c =
    let p = plan_of c.args.p.now in
    let w = wanted_of c.args.wish.now in
    acted_tells p (group_at p (touched p c.args.who.now w)) c.args.who.now w c.args.self.now c.act_by_wish.new.self (acted c.act_by_wish.result c.act_by_wish.new.out) c.act_by_wish.ensures

pub returns-clause-same : goal.returns-clause-same
returns-clause-same c = λ shown is.
    let p = plan_of c.args.p.now in
    let w = wanted_of c.args.wish.now in
    (subst (IsActed p c.args.who.now w c.args.self.now c.act_by_wish.new.self) (ap (λ r. acted r c.act_by_wish.new.out) is) c.act_by_wish.ensures).same

pub returns-clause-only : goal.returns-clause-only
returns-clause-only c = λ is.
    let p = plan_of c.args.p.now in
    let w = wanted_of c.args.wish.now in
    (subst (IsActed p c.args.who.now w c.args.self.now c.act_by_wish.new.self) (ap (λ r. acted r c.act_by_wish.new.out) is) c.act_by_wish.ensures).told.only

pub returns-clause-left : goal.returns-clause-left
returns-clause-left c = λ is.
    let p = plan_of c.args.p.now in
    let w = wanted_of c.args.wish.now in
    (subst (IsActed p c.args.who.now w c.args.self.now c.act_by_wish.new.self) (ap (λ r. acted r c.act_by_wish.new.out) is) c.act_by_wish.ensures).told.left
