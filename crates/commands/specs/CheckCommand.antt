-- What `check C T S` finds: the verdict on the trace T, as that of a run of the script S on the bus of the description C.
use Rattle.std.specs.Prelude.{◌≢◌, List}
use Rattle.rte_text.specs.declared.refusal.Refused.TheVariants.{Rule}
use Rattle.bus_semantics.specs.declared.script.Line.{Line}
use Rattle.bus_semantics.specs.Plan.{plan_of}
use Rattle.trace_reading.specs.declared.checked.Checked.{Checked}
use Rattle.trace_reading.specs.declared.checked.Checked.TheVariants.{Legal}
use Rattle.trace_reading.specs.Verdicts.{IsVerdict}
use Rattle.description_stages.specs.declared.planning.PlannedDescription.{PlannedDescription}
use Rattle.description_stages.specs.Plans.{IsPlanRefusalOf}
use Rattle.commands.specs.declared.stop.Finding.{Finding}
use Rattle.commands.specs.declared.stop.Finding.TheVariants as finding
use Rattle.commands.specs.Commands.{Bytes}
use Rattle.commands.specs.Inputs.{AreInputs, HaveBadLine}

-- the bytes are a description and a script over its plan, and this is the verdict on the trace
pub record IsCheckedAs (description trace script : Bytes) (checked : Checked) : Type 0 where
  pub found : PlannedDescription
  pub lines : List Line
  pub inputs : AreInputs description script found lines
  pub verdict : IsVerdict (plan_of found.plan) found.mapping lines trace checked

-- the description breaks a rule, or else a line of the script is refused, or else the trace is not legal
abbrev pub IsCheckFinding : (description : Bytes) → (trace : Bytes) → (script : Bytes) → Finding → Type 0
IsCheckFinding d t s (finding.Refused refusal) = IsPlanRefusalOf d (Rule refusal)
IsCheckFinding d t s (finding.Script line cause) = HaveBadLine d s line cause
IsCheckFinding d t s (finding.Trace checked) = (checked ≢ Legal) × IsCheckedAs d t s checked
IsCheckFinding d t s finding.NoComponent = ⊥
IsCheckFinding d t s (finding.Clash name) = ⊥
IsCheckFinding d t s (finding.RefusedOf refusal which) = ⊥
IsCheckFinding d t s finding.NoLink = ⊥
IsCheckFinding d t s finding.TooManyCores = ⊥
