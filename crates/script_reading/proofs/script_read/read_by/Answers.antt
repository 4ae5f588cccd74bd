use Rattle.std.proofs.Common.{◌≡◌, ◌++◌, map, rules}
use Rattle.script_reading.specs.Common.{asked_of, asked_by}
use Rattle.script_reading.specs.Pieces.{saying_of}
use Rattle.script_reading.proofs.Steps.{has_read_next}
use Rattle.script_reading.proofs.script_read.read_by.Goals as goal

pub loop-rest-preserved : goal.loop-rest-preserved
loop-rest-preserved g c =
    let pushed : map asked_of c.push_line.new.lines.items ≡ map asked_of c.loop-rest.lines.items ++ asked_by (saying_of c.read_line-said.result) = search rules in
    has_read_next (g.G.Grammar.say c.args.grammar.now) c.args.bytes.now c.loop-rest.lines.items c.push_line.new.lines.items c.loop-rest.counts c.in-Ok.more
    c.loop-rest.rest.now c.split_line.result.0.now c.split_line.result.1.now (saying_of c.read_line-said.result)
    c.loop-rest.invariant c.split_line.ensures.lines c.read_line-said.ensures c.in-Ok.ensures.0 c.in-Ok.ensures.1 pushed
