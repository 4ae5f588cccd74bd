use Rattle.bus_semantics.specs.Common.{and_parts, plan_of, names_fit}
use Rattle.script_run.proofs.lines.put_entry.Goals as goal

pub write_entry-requires-clause-names : goal.write_entry-requires-clause-names
write_entry-requires-clause-names g c = (and_parts (names_fit (plan_of c.args.p.now)) _ c.requires.1.names).0

pub write_entry-requires-clause-lists : goal.write_entry-requires-clause-lists
write_entry-requires-clause-lists g c = c.requires.1.lists
