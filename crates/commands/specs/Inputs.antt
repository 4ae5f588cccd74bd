-- What the bytes of a description and of a script are.
use Rattle.std.specs.Prelude.{◌≡◌, ℕ, List, [], Some}
use Rattle.bus_semantics.specs.declared.script.Line.{Line}
use Rattle.bus_semantics.specs.Plan.{plan_of}
use Rattle.description_stages.specs.declared.planning.PlannedDescription.{PlannedDescription}
use Rattle.description_stages.specs.Plans.{IsPlannedOf}
use Rattle.line_fields.specs.Texts.{lines_of}
use Rattle.script_reading.specs.Common.{saying, IsScript, first_bad}
use Rattle.commands.specs.Commands.{Bytes}

-- a description and a script over its plan
pub record AreInputs (description script : Bytes) (found : PlannedDescription) (lines : List Line) : Type 0 where
  pub described : IsPlannedOf description found
  pub scripted : IsScript (plan_of found.plan) script lines

-- a description, and a script of which this is the first bad line over its plan, with its least cause
pub record HaveBadLine (description script : Bytes) (line cause : ℕ) : Type 0 where
  pub found : PlannedDescription
  pub described : IsPlannedOf description found
  pub bad : first_bad (saying (plan_of found.plan)) [] (lines_of script) ≡ Some (line, cause)
