use Rattle.std.proofs.Common.{nat_eq}
use Rattle.indexmap.specs.IndexMap.{get}
use Rattle.composition_tables.specs.Multi.{under}
use Rattle.end_crossing.proofs.SamePorts.{cross_at}
use Rattle.end_crossing.proofs.cross.add_groups.Goals as goal

pub returns-clause-grown : goal.returns-clause-grown
returns-clause-grown c = cross_at c.args.d.now c.group_of-first.result.now c.group_of-second.result.now (under (get nat_eq c.args.provided.now c.args.pair.0)) (under (get nat_eq c.args.required.now c.args.pair.1))
    c.args.links.now.list.items c.add_all.new.links.list.items c.in_ok-is_full.is_full c.group_of-first.ensures c.group_of-second.ensures c.in_ok-is_full.ensures.grown
