use Rattle.std.proofs.Common.{subst}
use Rattle.bus_semantics.specs.Common.{plan_of, wanted_of, touched}
use Rattle.object_kinds.specs.Common.{acted, group_at}
use Rattle.data_objects.specs.Acting.{IsActed}
use Rattle.data_objects.specs.Plans.{IsGroupOfPlan}
use Rattle.data_objects.proofs.Acting.{acted_answers, acted_planned, acted_tells, wish_inside, seen_itself}
use Rattle.data_objects.proofs.group.Group.act.Goals as goal

pub act_by_wish-requires-clause-planned : goal.act_by_wish-requires-clause-planned
act_by_wish-requires-clause-planned c = λ g seen.
    let p = plan_of c.args.p.now in
    let w = wanted_of c.args.wish.now in
    let object = touched p c.args.who.now w in
    subst (λ h. IsGroupOfPlan p h c.args.self.now.kept) (seen_itself p object c.args.who.now c.requires.planned.alone w g c.requires.touching seen) c.requires.planned.group

pub returns-clause-answer : goal.returns-clause-answer
returns-clause-answer c =
    let p = plan_of c.args.p.now in
    let w = wanted_of c.args.wish.now in
    let object = touched p c.args.who.now w in
    acted_answers p (group_at p object) c.args.who.now w c.args.self.now c.act_by_wish.new.self (acted c.act_by_wish.result c.act_by_wish.new.out) c.requires.planned.group
    (c.act_by_wish.ensures.acted (group_at p object) (wish_inside p object c.args.who.now c.requires.planned.alone w c.requires.touching))

pub returns-clause-planned : goal.returns-clause-planned
returns-clause-planned c =
    let p = plan_of c.args.p.now in
    let w = wanted_of c.args.wish.now in
    let object = touched p c.args.who.now w in
    record {
      alone = c.requires.planned.alone;
      group = acted_planned p (group_at p object) c.args.who.now w c.args.self.now c.act_by_wish.new.self (acted c.act_by_wish.result c.act_by_wish.new.out) c.requires.planned.group
          (c.act_by_wish.ensures.acted (group_at p object) (wish_inside p object c.args.who.now c.requires.planned.alone w c.requires.touching));
    }

pub returns-clause-told : goal.returns-clause-told
returns-clause-told c =
    let p = plan_of c.args.p.now in
    let w = wanted_of c.args.wish.now in
    let object = touched p c.args.who.now w in
    acted_tells p (group_at p object) c.args.who.now w c.args.self.now c.act_by_wish.new.self (acted c.act_by_wish.result c.act_by_wish.new.out)
    (c.act_by_wish.ensures.acted (group_at p object) (wish_inside p object c.args.who.now c.requires.planned.alone w c.requires.touching))

pub returns-clause-same : goal.returns-clause-same
returns-clause-same c = λ shown is.
    let p = plan_of c.args.p.now in
    let w = wanted_of c.args.wish.now in
    let object = touched p c.args.who.now w in
    (subst (λ r. IsActed p (group_at p object) c.args.who.now w c.args.self.now c.act_by_wish.new.self (acted r c.act_by_wish.new.out)) is
    (c.act_by_wish.ensures.acted (group_at p object) (wish_inside p object c.args.who.now c.requires.planned.alone w c.requires.touching))).same

pub returns-clause-only : goal.returns-clause-only
returns-clause-only c = λ is.
    let p = plan_of c.args.p.now in
    let w = wanted_of c.args.wish.now in
    let object = touched p c.args.who.now w in
    (subst (λ r. IsActed p (group_at p object) c.args.who.now w c.args.self.now c.act_by_wish.new.self (acted r c.act_by_wish.new.out)) is
    (c.act_by_wish.ensures.acted (group_at p object) (wish_inside p object c.args.who.now c.requires.planned.alone w c.requires.touching))).told.only

pub returns-clause-left : goal.returns-clause-left
returns-clause-left c = λ is.
    let p = plan_of c.args.p.now in
    let w = wanted_of c.args.wish.now in
    let object = touched p c.args.who.now w in
    (subst (λ r. IsActed p (group_at p object) c.args.who.now w c.args.self.now c.act_by_wish.new.self (acted r c.act_by_wish.new.out)) is
    (c.act_by_wish.ensures.acted (group_at p object) (wish_inside p object c.args.who.now c.requires.planned.alone w c.requires.touching))).told.left
