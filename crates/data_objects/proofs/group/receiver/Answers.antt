use Rattle.std.proofs.Common.{◌≡◌, true, sym, ◌∙◌, ap, subst}
use Rattle.bus_semantics.specs.Plan.{plan_of}
use Rattle.object_kinds.specs.Common.{place, members_of, is_rising}
use Rattle.object_kinds.proofs.Lists.{at_index}
use Rattle.object_kinds.proofs.Members.{listed_members, members_rise}
use Rattle.data_objects.proofs.group.receiver.Goals as goal

pub find-requires : goal.find-requires
find-requires c =
    let p = plan_of c.args.p.now in
    let members : c.items-2.result.now ≡ members_of p c.args.group =
    c.items-2.ensures ∙ listed_members p c.args.group c.index-items-group.result c.requires.groups (at_index c.args.p.now.groups c.items.result.now c.args.group c.index-items-group.result c.items.ensures c.index-items-group.is c.requires.within) in
    subst (λ xs. is_rising xs ≡ true) (sym members) (members_rise p c.args.group)

pub returns : goal.returns
returns c =
    let p = plan_of c.args.p.now in
    let members : c.items-2.result.now ≡ members_of p c.args.group =
    c.items-2.ensures ∙ listed_members p c.args.group c.index-items-group.result c.requires.groups (at_index c.args.p.now.groups c.items.result.now c.args.group c.index-items-group.result c.items.ensures c.index-items-group.is c.requires.within) in
    c.find.ensures ∙ ap (place c.args.elem) members
