-- The pieces of a line, as code has them.
use Rattle.trace_reading.specs.declared.fields.Fields.{Fields}
use Rattle.trace_reading.specs.Deeds.{Line}

abbrev pub line_of : Fields → Line
line_of f = record { who = f.who.now; word = f.word.now; first = f.first.now; second = f.second.now; third = f.third.now; fourth = f.fourth.now }
