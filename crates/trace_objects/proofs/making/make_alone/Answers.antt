use Rattle.trace_objects.proofs.Compared.{alone}
use Rattle.trace_objects.proofs.making.make_alone.Goals as goal

pub returns-in-Some : goal.returns-in-Some
returns-in-Some c = alone _ c.args.entry.now c.in-Some.deed c.compare.result c.compare.ensures c.in-Some.ensures.0 c.in-Some.ensures.1
