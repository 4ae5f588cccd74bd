use Rattle.trace_text.proofs.Appending.{appends_both}
use Rattle.trace_text.proofs.lists.write_published.Goals as goal

pub returns-clause-text : goal.returns-clause-text
returns-clause-text c =
    rw (← c.position_of.ensures, ← c.elems_of.ensures)
    (appends_both (appends_both (appends_both c.write_text.ensures c.write_number.ensures.text) (appends_both c.write_text-2.ensures c.write_marks.ensures)) c.write_spaced_value.ensures.text)
