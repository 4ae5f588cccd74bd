use Rattle.std.proofs.Common.{◌≡◌, ◌∙◌, ap}
use Rattle.std.specs.Prelude.{filter}
use Rattle.bus_semantics.specs.Common.{take_all, plan_of}
use Rattle.object_kinds.specs.Layout.{members_of}
use Rattle.object_kinds.proofs.Lists.{at_index}
use Rattle.object_kinds.proofs.Members.{listed_members}
use Rattle.queue_objects.specs.Layout.{is_receiver_at}
use Rattle.queue_objects.proofs.Picking.{receivers_picked}
use Rattle.queue_objects.proofs.making.receivers_of.Goals as goal

pub returns : goal.returns
returns c =
    let p = plan_of c.args.p.now in
    let g = c.args.group in
    let members : c.items-elem-items.result.now ≡ members_of p g =
    c.items-elem-items.ensures ∙ listed_members p g c.index-items-group.result c.requires.groups (at_index c.args.p.now.groups c.items.result.now g c.index-items-group.result c.items.ensures c.index-items-group.is c.requires.within) in
    c.loop-elem.invariant ∙ ap (filter (is_receiver_at p g)) (take_all c.loop-elem.elem-index c.items-elem-items.result.now c.loop-elem-test.false ∙ members) ∙ receivers_picked p g
