use Rattle.std.proofs.Common.{◌≡◌, ◌∙◌, ap}
use Rattle.bus_semantics.specs.Common.{slice_get, option_map_or, plan_of}
use Rattle.object_kinds.specs.Layout.{members_of}
use Rattle.object_kinds.proofs.Lists.{at_index}
use Rattle.object_kinds.proofs.Members.{listed_members}
use Rattle.queue_objects.specs.Layout.{words_at}
use Rattle.queue_objects.proofs.making.words_of.Goals as goal

pub returns-in-Some : goal.returns-in-Some
returns-in-Some c =
    let p = plan_of c.args.p.now in
    let g = c.args.group in
    let members : c.items-2.result.now ≡ members_of p g =
    c.items-2.ensures ∙ listed_members p g c.index-items-group.result c.requires.groups (at_index c.args.p.now.groups c.items.result.now g c.index-items-group.result c.items.ensures c.index-items-group.is c.requires.within) in
    c.words_at.ensures ∙ ap (λ o. option_map_or (words_at p) o 0) (c.in-Some.ensures.value ∙ ap (λ xs. slice_get xs 0) members)

pub returns-in-None : goal.returns-in-None
returns-in-None c =
    let p = plan_of c.args.p.now in
    let g = c.args.group in
    let members : c.items-2.result.now ≡ members_of p g =
    c.items-2.ensures ∙ listed_members p g c.index-items-group.result c.requires.groups (at_index c.args.p.now.groups c.items.result.now g c.index-items-group.result c.items.ensures c.index-items-group.is c.requires.within) in
    ap (λ o. option_map_or (words_at p) o 0) (c.in-None.ensures.value ∙ ap (λ xs. slice_get xs 0) members)
