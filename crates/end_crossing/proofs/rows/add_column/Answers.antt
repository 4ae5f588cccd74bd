use Rattle.std.proofs.Common.{subst}
use Rattle.end_crossing.specs.declared.crossings.Crossing.TheVariants.{Column}
use Rattle.composition_tables.specs.declared.tree.PortEnd.{PortEnd}
use Rattle.description_types.specs.Growing.{AnyOf, Grown}
use Rattle.end_crossing.specs.PortLinks.{IsPairLink}
use Rattle.end_crossing.proofs.Grouping.{crossed_before, crossed_now}
use Rattle.end_crossing.proofs.ByParts.{column_grown, column_there}
use Rattle.end_crossing.proofs.rows.add_column.Goals as goal

pub returns-then-is_crossed-clause-grown : goal.returns-then-is_crossed-clause-grown
returns-then-is_crossed-clause-grown c = column_grown c.args.d.now c.args.provided c.args.interface c.args.first.now c.requires.first c.args.links.now.list.items c.args.links.now.list.items _ c.args.end
    (crossed_before c.args.d.now c.args.matched.now c.args.links.now.list.items c.requires.matched (Column c.args.provided c.args.interface c.args.end) (c.is_crossed.ensures.0 c.if-is_crossed.true))

pub returns-then-branch-clause-grown : goal.returns-then-branch-clause-grown
returns-then-branch-clause-grown c = subst (Grown (AnyOf (λ (p : PortEnd). IsPairLink c.args.d.now p c.args.end) c.args.first.now) c.args.links.now.list.items c.add_providers.new.links.list.items) c.if-branch.true c.in_ok-add_providers.ensures.grown

pub returns-clause-matched : goal.returns-clause-matched
returns-clause-matched c = crossed_now c.args.d.now c.add_providers.new.matched c.add_providers.new.links.list.items c.in_ok-add_providers.ensures.matched (Column c.args.provided c.args.interface c.args.end) c.note_crossed.new.self
    c.note_crossed.ensures.listed c.note_crossed.ensures.kept c.note_crossed.ensures.sides c.note_crossed.ensures.near c.note_crossed.ensures.done c.in_ok-note_crossed.ensures.crossed
    (column_there c.args.d.now c.args.provided c.args.interface c.args.first.now c.requires.first c.add_providers.new.links.list.items c.args.end (λ x h. c.in_ok-add_providers.ensures.grown.has c.if-branch.false x h))

pub returns-clause-grown : goal.returns-clause-grown
returns-clause-grown c = subst (Grown (AnyOf (λ (p : PortEnd). IsPairLink c.args.d.now p c.args.end) c.args.first.now) c.args.links.now.list.items c.add_providers.new.links.list.items) c.if-branch.false c.in_ok-add_providers.ensures.grown
