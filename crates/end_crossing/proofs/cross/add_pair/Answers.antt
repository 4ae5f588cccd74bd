use Rattle.std.proofs.Common.{subst}
use Rattle.description_types.specs.Growing.{Grown}
use Rattle.end_crossing.specs.PortLinks.{IsPairLink}
use Rattle.end_crossing.proofs.Grouping.{pair_links, adding_more, done_before, done_now}
use Rattle.end_crossing.proofs.cross.add_pair.Goals as goal

pub returns-then-is_done-clause-grown : goal.returns-then-is_done-clause-grown
returns-then-is_done-clause-grown c = done_before c.args.d.now c.args.matched.now c.args.links.now.list.items c.requires c.args.provided c.args.required (c.is_done.ensures.0 c.if-is_done.true)

pub returns-then-branch-clause-matched : goal.returns-then-branch-clause-matched
returns-then-branch-clause-matched c = adding_more c.args.d.now c.args.matched.now c.args.links.now.list.items c.requires c.find.new.self _ c.add_items.new.links.list.items c.in_ok-add_items.field-0
    c.in_ok-find.ensures.matched c.in_ok-find.ensures.done c.in_ok-find.ensures.crossed c.in_ok-add_items.ensures

pub returns-then-branch-clause-grown : goal.returns-then-branch-clause-grown
returns-then-branch-clause-grown c = subst (Grown (IsPairLink c.args.d.now c.args.provided c.args.required) c.args.links.now.list.items c.add_items.new.links.list.items) c.if-branch.true
    (pair_links c.args.d.now c.args.provided c.args.required c.kept.result.now _ c.in_ok-find.ensures.kept c.kept.ensures c.args.links.now.list.items c.add_items.new.links.list.items c.in_ok-add_items.field-0 c.in_ok-add_items.ensures)

pub returns-clause-matched : goal.returns-clause-matched
returns-clause-matched c =
    let adding = adding_more c.args.d.now c.args.matched.now c.args.links.now.list.items c.requires c.find.new.self _ c.add_items.new.links.list.items c.in_ok-add_items.field-0
    c.in_ok-find.ensures.matched c.in_ok-find.ensures.done c.in_ok-find.ensures.crossed c.in_ok-add_items.ensures in
    let grown = pair_links c.args.d.now c.args.provided c.args.required c.kept.result.now _ c.in_ok-find.ensures.kept c.kept.ensures c.args.links.now.list.items c.add_items.new.links.list.items c.in_ok-add_items.field-0 c.in_ok-add_items.ensures in
    done_now c.args.d.now c.find.new.self c.add_items.new.links.list.items adding c.args.provided c.args.required c.note_done.new.self c.note_done.ensures.listed c.note_done.ensures.kept c.note_done.ensures.sides c.note_done.ensures.near c.note_done.ensures.crossed c.in_ok-note_done.ensures.done
    (λ x h. grown.has c.if-branch.false x h)

pub returns-clause-grown : goal.returns-clause-grown
returns-clause-grown c = subst (Grown (IsPairLink c.args.d.now c.args.provided c.args.required) c.args.links.now.list.items c.add_items.new.links.list.items) c.if-branch.false
    (pair_links c.args.d.now c.args.provided c.args.required c.kept.result.now _ c.in_ok-find.ensures.kept c.kept.ensures c.args.links.now.list.items c.add_items.new.links.list.items c.in_ok-add_items.field-0 c.in_ok-add_items.ensures)
