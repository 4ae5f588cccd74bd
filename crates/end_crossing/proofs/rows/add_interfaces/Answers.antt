use Rattle.std.proofs.Common.{nat_eq, sym, subst}
use Rattle.indexmap.specs.IndexMap.{get}
use Rattle.end_search.specs.Sides.{AreOf}
use Rattle.composition_tables.specs.Multi.{under}
use Rattle.end_crossing.proofs.SamePorts.{cross_at}
use Rattle.end_crossing.proofs.rows.add_interfaces.Goals as goal

pub add_between-requires-clause-first : goal.add_between-requires-clause-first
add_between-requires-clause-first c = subst (AreOf c.args.d.now c.args.provided c.args.pair.0) (sym c.group_of-firsts.ensures) c.requires.first

pub add_between-requires-clause-second : goal.add_between-requires-clause-second
add_between-requires-clause-second c = subst (AreOf c.args.d.now c.args.required c.args.pair.1) (sym c.group_of-seconds.ensures) c.requires.second

pub returns-clause-grown : goal.returns-clause-grown
returns-clause-grown c = cross_at c.args.d.now c.group_of-firsts.result.now c.group_of-seconds.result.now (under (get nat_eq c.args.first.now c.args.pair.0)) (under (get nat_eq c.args.second.now c.args.pair.1))
    c.args.links.now.list.items c.add_between.new.links.list.items c.in_ok-is_full.is_full c.group_of-firsts.ensures c.group_of-seconds.ensures c.in_ok-is_full.ensures.grown
