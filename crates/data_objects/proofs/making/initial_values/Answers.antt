use Rattle.std.proofs.Common.{◌≡◌, ◌∙◌, ap, map}
use Rattle.bus_semantics.specs.Common.{take_all, plan_of}
use Rattle.object_kinds.specs.Layout.{members_of}
use Rattle.object_kinds.proofs.Lists.{at_index}
use Rattle.object_kinds.proofs.Members.{listed_members}
use Rattle.data_objects.specs.Layout.{initial_of}
use Rattle.data_objects.proofs.making.initial_values.Goals as goal

pub returns : goal.returns
returns c =
    let p = plan_of c.args.p.now in
    let members : c.items-elem-items.result.now ≡ members_of p c.args.group =
    c.items-elem-items.ensures ∙ listed_members p c.args.group c.index-items-group.result c.requires.groups (at_index c.args.p.now.groups c.items.result.now c.args.group c.index-items-group.result c.items.ensures c.index-items-group.is c.requires.within) in
    c.loop-elem.invariant ∙ ap (map (initial_of p)) (take_all c.loop-elem.elem-index c.items-elem-items.result.now c.loop-elem-test.false ∙ members)
