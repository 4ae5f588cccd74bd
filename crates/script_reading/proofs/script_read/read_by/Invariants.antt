use Rattle.std.proofs.Common.{length}
use Rattle.script_reading.proofs.Steps.{HasRead}
use Rattle.script_reading.proofs.script_read.read_by.Given as goal

abbrev pub invariant-loop-rest : goal.invariant-loop-rest
invariant-loop-rest g l = HasRead (g.G.Grammar.say l.grammar) l.bytes l.lines.items l.counts l.rest

abbrev pub decreases-loop-rest : goal.decreases-loop-rest
decreases-loop-rest g l = length l.rest
