use Rattle.end_crossing.proofs.ByParts.{columns_cross}
use Rattle.end_crossing.proofs.rows.add_between.Goals as goal

pub returns-clause-grown : goal.returns-clause-grown
returns-clause-grown c = columns_cross c.args.d.now c.args.first.now c.args.second.now c.args.links.now.list.items c.add_columns.new.links.list.items c.in_ok-is_full-2.is_full c.in_ok-is_full-2.ensures.grown
