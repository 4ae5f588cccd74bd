use Rattle.trace_text.proofs.Appending.{appends_both}
use Rattle.trace_text.proofs.deeds.write_invalidated.Goals as goal

pub returns : goal.returns
returns c = appends_both (appends_both c.write_text.ensures c.write_text-2.ensures) c.write_text-3.ensures
