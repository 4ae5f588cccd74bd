use Rattle.std.proofs.Common.{subst}
use Rattle.bus_semantics.specs.Common.{plan_of, wanted_of, touched}
use Rattle.object_kinds.specs.Kinds.{acted}
use Rattle.port_objects.specs.Answers.{IsAnswer}
use Rattle.port_objects.proofs.acting.act_in_place.Goals as goal

pub returns-clause-done : goal.returns-clause-done
returns-clause-done c = λ m l ask is.
    let p = plan_of c.args.p.now in
    let a = c.args.who.now in
    let w = wanted_of c.args.wish.now in
    let old = c.args.object.now in
    let new = c.act_by_kind.new.object in
    let out = c.act_by_kind.new.out in
    c.answers_are_what_may_come.ensures.made p m a w old new l out c.requires.touching ask (subst (λ r. IsAnswer p (touched p a w) a w old new (acted r out)) is c.act_by_kind.ensures.lead)

pub returns-clause-not_yet : goal.returns-clause-not_yet
returns-clause-not_yet c = λ m l shown ask is.
    let p = plan_of c.args.p.now in
    let a = c.args.who.now in
    let w = wanted_of c.args.wish.now in
    let old = c.args.object.now in
    let new = c.act_by_kind.new.object in
    let out = c.act_by_kind.new.out in
    c.answers_are_what_may_come.ensures.held p m a w old new l shown c.requires.touching ask (subst (λ r. IsAnswer p (touched p a w) a w old new (acted r out)) is c.act_by_kind.ensures.lead)
