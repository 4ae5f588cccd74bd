use Rattle.std.proofs.Common.{subst}
use Rattle.end_crossing.specs.declared.crossings.Crossing.TheVariants.{Row}
use Rattle.description_types.specs.Growing.{AnyOf, Grown}
use Rattle.end_crossing.specs.PortLinks.{IsPairLink}
use Rattle.end_crossing.proofs.Grouping.{crossed_before, crossed_now}
use Rattle.end_crossing.proofs.ByParts.{row_grown, row_there}
use Rattle.end_crossing.proofs.rows.add_row.Goals as goal

pub returns-then-is_crossed-clause-grown : goal.returns-then-is_crossed-clause-grown
returns-then-is_crossed-clause-grown c = row_grown c.args.d.now c.args.required c.args.interface c.args.second.now c.requires.second c.args.links.now.list.items c.args.links.now.list.items _ c.args.end
    (crossed_before c.args.d.now c.args.matched.now c.args.links.now.list.items c.requires.matched (Row c.args.end c.args.required c.args.interface) (c.is_crossed.ensures.0 c.if-is_crossed.true))

pub returns-then-branch-clause-grown : goal.returns-then-branch-clause-grown
returns-then-branch-clause-grown c = subst (Grown (AnyOf (IsPairLink c.args.d.now c.args.end) c.args.second.now) c.args.links.now.list.items c.add_ends.new.links.list.items) c.if-branch.true c.in_ok-add_ends.ensures.grown

pub returns-clause-matched : goal.returns-clause-matched
returns-clause-matched c = crossed_now c.args.d.now c.add_ends.new.matched c.add_ends.new.links.list.items c.in_ok-add_ends.ensures.matched (Row c.args.end c.args.required c.args.interface) c.note_crossed.new.self
    c.note_crossed.ensures.listed c.note_crossed.ensures.kept c.note_crossed.ensures.sides c.note_crossed.ensures.near c.note_crossed.ensures.done c.in_ok-note_crossed.ensures.crossed
    (row_there c.args.d.now c.args.required c.args.interface c.args.second.now c.requires.second c.add_ends.new.links.list.items c.args.end (λ x h. c.in_ok-add_ends.ensures.grown.has c.if-branch.false x h))

pub returns-clause-grown : goal.returns-clause-grown
returns-clause-grown c = subst (Grown (AnyOf (IsPairLink c.args.d.now c.args.end) c.args.second.now) c.args.links.now.list.items c.add_ends.new.links.list.items) c.if-branch.false c.in_ok-add_ends.ensures.grown
