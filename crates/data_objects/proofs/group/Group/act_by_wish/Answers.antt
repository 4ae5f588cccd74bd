use Rattle.std.proofs.Common.{sym, ◌∙◌, ap, subst}
use Rattle.bus_semantics.specs.Common.{plan_of, wanted_of}
use Rattle.object_kinds.specs.Common.{acted}
use Rattle.data_objects.specs.Acting.{IsActed, group_seen}
use Rattle.data_objects.proofs.Acting.{acted_long}
use Rattle.data_objects.proofs.group.Group.act_by_wish.Goals as goal

pub returns-in-Write-clause-acted : goal.returns-in-Write-clause-acted
returns-in-Write-clause-acted c = λ g inside.
    let p = plan_of c.args.p.now in
    subst (λ w. IsActed p g c.args.who.now w c.args.self.now c.write.new.self (acted c.write.result c.write.new.out)) (sym (ap wanted_of c.in-Write.is)) (c.write.ensures p g)

pub returns-in-Publish-clause-acted : goal.returns-in-Publish-clause-acted
returns-in-Publish-clause-acted c = λ g inside.
    let p = plan_of c.args.p.now in
    subst (λ w. IsActed p g c.args.who.now w c.args.self.now c.publish.new.self (acted c.publish.result c.publish.new.out)) (sym (ap wanted_of c.in-Publish.is)) (c.publish.ensures p g)

pub returns-in-Invalidate-clause-acted : goal.returns-in-Invalidate-clause-acted
returns-in-Invalidate-clause-acted c = λ g inside.
    let p = plan_of c.args.p.now in
    subst (λ w. IsActed p g c.args.who.now w c.args.self.now c.invalidate.new.self (acted c.invalidate.result c.invalidate.new.out)) (sym (ap wanted_of c.in-Invalidate.is)) (c.invalidate.ensures p g)

pub returns-in-Start-clause-acted : goal.returns-in-Start-clause-acted
returns-in-Start-clause-acted c = λ g inside.
    let p = plan_of c.args.p.now in
    subst (λ w. IsActed p g c.args.who.now w c.args.self.now c.start.new.self (acted c.start.result c.start.new.out)) (sym (ap wanted_of c.in-Start.is)) (c.start.ensures p g)

pub read-requires-clause-within : goal.read-requires-clause-within
read-requires-clause-within c =
    let p = plan_of c.args.p.now in
    (c.requires.planned c.in-Some.group (ap (λ w. group_seen p (wanted_of w)) c.in-Read.is ∙ sym c.group_of.ensures ∙ c.in-Some.is)).is_group.number

pub fetch-requires-clause-within : goal.fetch-requires-clause-within
fetch-requires-clause-within c =
    let p = plan_of c.args.p.now in
    (c.requires.planned c.in-Some-group_of.group (ap (λ w. group_seen p (wanted_of w)) c.in-Fetch.is ∙ sym c.group_of-in-Fetch.ensures ∙ c.in-Some-group_of.is)).is_group.number

pub is_updated-requires-clause-within : goal.is_updated-requires-clause-within
is_updated-requires-clause-within c =
    let p = plan_of c.args.p.now in
    (c.requires.planned c.in-Some-group_of-2.group (ap (λ w. group_seen p (wanted_of w)) c.in-IsUpdated.is ∙ sym c.group_of-in-IsUpdated.ensures ∙ c.in-Some-group_of-2.is)).is_group.number

pub returns-in-Write-clause-long : goal.returns-in-Write-clause-long
returns-in-Write-clause-long c =
    let p = plan_of c.args.p.now in
    acted_long p 0 c.args.who.now _ c.args.self.now c.write.new.self (acted c.write.result c.write.new.out) (c.write.ensures p 0)

pub returns-in-Publish-clause-long : goal.returns-in-Publish-clause-long
returns-in-Publish-clause-long c =
    let p = plan_of c.args.p.now in
    acted_long p 0 c.args.who.now _ c.args.self.now c.publish.new.self (acted c.publish.result c.publish.new.out) (c.publish.ensures p 0)

pub returns-in-Invalidate-clause-long : goal.returns-in-Invalidate-clause-long
returns-in-Invalidate-clause-long c =
    let p = plan_of c.args.p.now in
    acted_long p 0 c.args.who.now _ c.args.self.now c.invalidate.new.self (acted c.invalidate.result c.invalidate.new.out) (c.invalidate.ensures p 0)

pub returns-in-Start-clause-long : goal.returns-in-Start-clause-long
returns-in-Start-clause-long c =
    let p = plan_of c.args.p.now in
    acted_long p 0 c.args.who.now _ c.args.self.now c.start.new.self (acted c.start.result c.start.new.out) (c.start.ensures p 0)
