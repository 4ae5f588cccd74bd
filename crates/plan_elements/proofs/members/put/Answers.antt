use Rattle.std.proofs.Common.{◌<◌, arith, length, refl, vec_len}
use Rattle.plan_elements.proofs.Filling.{put_is}
use Rattle.plan_elements.proofs.members.put.Goals as goal

pub returns-in_ok-push : goal.returns-in_ok-push
returns-in_ok-push c =
    let near : c.args.group < vec_len c.args.lists.now = c.in-Some.ensures.variant.0 refl in
    let within : c.args.group < length c.args.lists.now.items = omega (arith, c.args.lists.now.ok.0) in
    put_is (λ v. v.items) c.args.lists.now.items c.args.group c.args.element c.in-Some.list.now c.push.new.self within c.in-Some.ensures.value c.in_ok-push.ensures.items
