use Rattle.std.proofs.Common.{◌≡◌, [], Some, subst}
use Rattle.bus_semantics.specs.Plan.{plan_of}
use Rattle.script_reading.specs.Common.{IfBadLine, first_bad, saying_around}
use Rattle.line_fields.specs.Texts.{lines_of}
use Rattle.script_reading.proofs.Numbered.{numbered}
use Rattle.script_reading.proofs.script_read.read_script_around.Goals as goal

pub of-requires : goal.of-requires
of-requires c = numbered (plan_of c.args.p.now) c.requires.sound.0 c.requires.sound.1 c.requires.few

pub returns-in-Ok-clause-bad_line : goal.returns-in-Ok-clause-bad_line
returns-in-Ok-clause-bad_line c =
    subst (λ p. IfBadLine c.read_by-read.result (λ line cause. first_bad (saying_around (plan_of p) c.args.reserved.now) [] (lines_of c.args.bytes.now) ≡ Some (line, cause))) c.in-Ok.ensures
    c.read_by-read.ensures.bad_line
