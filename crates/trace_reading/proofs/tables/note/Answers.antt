use Rattle.std.proofs.Common.{sym, subst}
use Rattle.trace_reading.specs.Tables.{IsNoted}
use Rattle.trace_reading.proofs.tables.note.Goals as goal

pub returns-in_ok-insert : goal.returns-in_ok-insert
returns-in_ok-insert c = subst (λ o. IsNoted o c.args.place c.args.table.now c.insert.new.self) (sym c.in-Some.is) (λ q. c.in_ok-insert.ensures.updates.0 q)
