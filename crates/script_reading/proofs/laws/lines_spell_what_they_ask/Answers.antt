use Rattle.script_reading.proofs.Answered.{asks_exactly, asks_once}
use Rattle.script_reading.proofs.Asking.{saying_asks}
use Rattle.script_reading.proofs.laws.lines_spell_what_they_ask.Goals as goal

pub returns : goal.returns
returns c = record { asked = saying_asks; exactly = asks_exactly; once = asks_once }
