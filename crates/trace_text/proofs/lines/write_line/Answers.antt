use Rattle.trace_text.proofs.Appending.{appends_both}
use Rattle.trace_text.proofs.lines.write_line.Goals as goal

pub returns-clause-text : goal.returns-clause-text
returns-clause-text c = appends_both (appends_both c.write_actor.ensures c.write_deed.ensures.text) c.write_text.ensures
