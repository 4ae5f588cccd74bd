use Rattle.std.proofs.Common.{◌≡◌, refl, sym, ap, subst}
use Rattle.bus_semantics.specs.Common.{plan_of, to_start, wanted_of, touched}
use Rattle.object_kinds.specs.Common.{acted}
use Rattle.bundle_objects.specs.Acting.{Answered}
use Rattle.bundle_objects.specs.Kept.{route}
use Rattle.bundle_objects.specs.Leading.{part_of}
use Rattle.bundle_objects.proofs.Acting.{GoesTo, acted_at, start_goes, elem_goes, write_answers, publish_answers, publish_all_answers, fetch_all_answers}
use Rattle.bundle_objects.proofs.bundle.Bundle.act_by_wish.Goals as goal

pub returns-in-FetchAll : goal.returns-in-FetchAll
returns-in-FetchAll c =
    let p = plan_of c.args.p.now in
    let a = c.args.who.now in
    let old = c.args.self.now in
    let b = touched p a (wanted_of c.args.wish.now) in
    subst (λ w. Answered p b a w old old (acted c.fetch_all.result c.fetch_all.new.out)) (sym (ap wanted_of c.in-FetchAll.is)) (fetch_all_answers p b a old c.requires.planned c.in-FetchAll.list (acted c.fetch_all.result c.fetch_all.new.out) c.fetch_all.ensures)

pub returns-in-PublishAll : goal.returns-in-PublishAll
returns-in-PublishAll c =
    let p = plan_of c.args.p.now in
    let a = c.args.who.now in
    let old = c.args.self.now in
    let new = c.publish_all.new.self in
    let b = touched p a (wanted_of c.args.wish.now) in
    subst (λ w. Answered p b a w old new (acted c.publish_all.result c.publish_all.new.out)) (sym (ap wanted_of c.in-PublishAll.is))
    (publish_all_answers p b a old c.requires.planned new c.in-PublishAll.list c.in-PublishAll.written c.in-PublishAll.value (acted c.publish_all.result c.publish_all.new.out) c.publish_all.ensures)

pub returns-in-Write : goal.returns-in-Write
returns-in-Write c =
    let p = plan_of c.args.p.now in
    let a = c.args.who.now in
    let old = c.args.self.now in
    let new = c.write.new.self in
    let b = touched p a (wanted_of c.args.wish.now) in
    subst (λ w. Answered p b a w old new (acted c.write.result c.write.new.out)) (sym (ap wanted_of c.in-Write.is))
    (write_answers p b a c.in-Write.elem c.in-Write.value old new c.requires.planned (acted c.write.result c.write.new.out) (part_of p old.kept c.in-Write.elem) refl c.write.ensures)

pub returns-in-Publish : goal.returns-in-Publish
returns-in-Publish c =
    let p = plan_of c.args.p.now in
    let a = c.args.who.now in
    let old = c.args.self.now in
    let new = c.publish.new.self in
    let b = touched p a (wanted_of c.args.wish.now) in
    subst (λ w. Answered p b a w old new (acted c.publish.result c.publish.new.out)) (sym (ap wanted_of c.in-Publish.is))
    (publish_answers p b a c.in-Publish.elem c.in-Publish.value old new c.requires.planned (acted c.publish.result c.publish.new.out) (part_of p old.kept c.in-Publish.elem) refl c.publish.ensures)

pub returns-in-Start : goal.returns-in-Start
returns-in-Start c =
    let p = plan_of c.args.p.now in
    let a = c.args.who.now in
    let old = c.args.self.now in
    let new = c.start.new.self in
    let b = touched p a (wanted_of c.args.wish.now) in
    let w = wanted_of c.args.wish.now in
    let is : w ≡ to_start c.in-Start.event = ap wanted_of c.in-Start.is in
    acted_at p b a w old new c.requires.planned (route old.kept c.in-Start.event) (subst (λ v. GoesTo p old.kept v (route old.kept c.in-Start.event)) (sym is) (start_goes p old.kept c.in-Start.event)) (acted c.start.result c.start.new.out) c.start.ensures

pub returns-in-Read : goal.returns-in-Read
returns-in-Read c =
    let p = plan_of c.args.p.now in
    let a = c.args.who.now in
    let old = c.args.self.now in
    let new = c.act_by_elem.new.self in
    let w = wanted_of c.args.wish.now in
    let b = touched p a w in
    acted_at p b a w old new c.requires.planned (part_of p old.kept c.in-Read.elem) (elem_goes p old.kept c.in-Read.elem w c.act_by_elem.ensures.wish) (acted c.act_by_elem.result c.act_by_elem.new.out) c.act_by_elem.ensures.acted
