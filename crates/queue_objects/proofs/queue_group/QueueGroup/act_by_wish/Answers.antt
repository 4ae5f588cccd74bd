use Rattle.std.proofs.Common.{◌≡◌, true, Some, sym, ◌∙◌, ap, subst}
use Rattle.bus_semantics.specs.Common.{words_of, wish_fits, plan_of, bundle_of, Wanted, to_send, wanted_of, object_of, touched}
use Rattle.object_kinds.specs.Kinds.{acted}
use Rattle.queue_objects.specs.Acting.{IsActed}
use Rattle.queue_objects.proofs.Acting.{sent_words}
use Rattle.queue_objects.proofs.queue_group.QueueGroup.act_by_wish.Goals as goal

pub send-requires : goal.send-requires
send-requires c =
    let p = plan_of c.args.p.now in
    let a = c.args.who.now in
    let ws = words_of c.in-Send.value in
    let w : wanted_of c.args.wish.now ≡ to_send c.in-Send.elem ws = ap wanted_of c.in-Send.is in
    let there : bundle_of p c.in-Send.elem ≡ Some (touched p a (wanted_of c.args.wish.now)) = sym (ap (object_of p a) w) ∙ c.requires.touching in
    sent_words p a (touched p a (wanted_of c.args.wish.now)) c.in-Send.elem ws c.args.self.now.kept (subst (λ (z : Wanted). wish_fits p a z ≡ true) w c.requires.fits) there c.requires.planned

pub returns-in-Send : goal.returns-in-Send
returns-in-Send c =
    let p = plan_of c.args.p.now in
    subst (λ w. IsActed p c.args.who.now w c.args.self.now c.send.new.self (acted c.send.result c.send.new.out)) (sym (ap wanted_of c.in-Send.is)) (c.send.ensures p)

pub returns-in-Start : goal.returns-in-Start
returns-in-Start c =
    let p = plan_of c.args.p.now in
    subst (λ w. IsActed p c.args.who.now w c.args.self.now c.start.new.self (acted c.start.result c.start.new.out)) (sym (ap wanted_of c.in-Start.is)) (c.start.ensures p)
