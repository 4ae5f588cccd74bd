-- What bytes come to: a plan or a refusal, a script or its first bad line, a verdict.
use Rattle.std.specs.Prelude.{◌≡◌, ℕ, List, [], Some}
use Rattle.rte_text.specs.declared.refusal.Refusal.{Refusal}
use Rattle.rte_text.specs.declared.refusal.Refused.TheVariants.{Rule}
use Rattle.bus_semantics.specs.declared.script.Line.{Line}
use Rattle.bus_semantics.specs.declared.script.Mapping.{Mapping}
use Rattle.bus_semantics.specs.Common.{Plan, Letters}
use Rattle.trace_reading.specs.declared.checked.Checked.{Checked}
use Rattle.trace_reading.specs.Verdicts.{IsVerdict}
use Rattle.description_stages.specs.declared.planning.PlannedDescription.{PlannedDescription}
use Rattle.description_stages.specs.Plans.{IsPlanRefusalOf, IsPlannedOf}
use Rattle.line_fields.specs.Texts.{lines_of}
use Rattle.script_reading.specs.Common.{Saying, IsScriptBy, first_bad}

-- the bytes of a description have a plan, or are refused by a rule
abbrev pub HasPlan : (description : List ℕ) → Type 0
HasPlan bytes = (x : PlannedDescription) × IsPlannedOf bytes x

abbrev pub HasRefusal : (description : List ℕ) → Type 0
HasRefusal bytes = (r : Refusal) × IsPlanRefusalOf bytes (Rule r)

-- if lines say this, the bytes are a script, or have a first bad line
abbrev pub HasScript : (say : Letters → Saying) → (script : List ℕ) → Type 0
HasScript say bytes = (lines : List Line) × IsScriptBy say bytes lines

abbrev pub HasBadLine : (say : Letters → Saying) → (script : List ℕ) → Type 0
HasBadLine say bytes = (line : ℕ) × (cause : ℕ) × (first_bad say [] (lines_of bytes) ≡ Some (line, cause))

-- a trace is called legal, or refused at a line
abbrev pub HasVerdict : Plan → Mapping → List Line → (trace : List ℕ) → Type 0
HasVerdict p m script trace = (verdict : Checked) × IsVerdict p m script trace verdict
