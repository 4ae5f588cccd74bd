-- How far the check has come in a trace, and its verdict. Sessions stand the newest first.
use Rattle.std.specs.Prelude.{◌≡◌, ℕ}
use Rattle.bus_semantics.specs.declared.version.Version.{Version}
use Rattle.bus_semantics.specs.Common.{Session, Letters}
use Rattle.trace_reading.specs.declared.checked.Checked.{Checked}
use Rattle.trace_reading.specs.Verdicts.{GoesOn, IsVerdict, line_after}
use Rattle.trace_check.specs.declared.rules.Rules.{Rules}
use Rattle.trace_check.specs.declared.check.Check.{Check}
use Rattle.trace_check.specs.Along.{plan_in}
use Rattle.trace_check.specs.Checking.{Stands}

-- the trace begins with the text of a begun legal run, for which the check stands; this is left, and its first line has this number
pub record Reaches (v : Version) (r : Rules) (trace : Letters) (c : Check) (left : Letters) (line : ℕ) : Type 0 where
  pub session : Session
  pub goes_on : GoesOn v (plan_in r) r.mapping.now r.script.now.lines trace session left
  pub stands : Stands r session c
  pub line_is : line ≡ line_after session

-- what the trace is called
abbrev pub VerdictOf : Rules → Letters → Checked → Type 0
VerdictOf r trace checked = IsVerdict (plan_in r) r.mapping.now r.script.now.lines trace checked
