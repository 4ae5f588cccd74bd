-- Why the bytes of files are not run: what is found of them, or want of memory, which says nothing of them.
use Rattle.std.specs.Prelude.{◌≡◌, ◌≢◌, ℕ, List, [], Some}
use Rattle.rte_text.specs.declared.refusal.Refused.{Refused}
use Rattle.rte_text.specs.declared.refusal.Refused.TheVariants.{Memory, Rule}
use Rattle.bus_semantics.specs.declared.script.Line.{Line}
use Rattle.bus_semantics.specs.declared.script.Mapping.{Mapping}
use Rattle.bus_semantics.specs.Plan.{Plan}
use Rattle.trace_reading.specs.declared.checked.Checked.TheVariants.{Legal}
use Rattle.trace_reading.specs.Verdicts.{IsVerdict}
use Rattle.line_fields.specs.Texts.{lines_of}
use Rattle.script_reading.specs.Common.{saying, first_bad}
use Rattle.commands.specs.declared.stop.Finding.{Finding}
use Rattle.commands.specs.declared.stop.Finding.TheVariants as finding
use Rattle.commands.specs.declared.stop.Stop.{Stop}
use Rattle.commands.specs.declared.stop.Stop.TheVariants as stop
use Rattle.commands.specs.Commands.{Bytes}
use Rattle.commands.specs.CheckCommand.{IsCheckFinding}
use Rattle.commands.specs.LiveCommand.{IsLiveFinding}
use Rattle.commands.specs.PlanCommand.{IsPlanFinding}
use Rattle.commands.specs.PairCommand.{IsPairFinding}
use Rattle.commands.specs.RunCommand.{IsRunFinding}

abbrev pub IsFound : (Finding → Type 0) → Stop → Type 0
IsFound finds (stop.Found finding) = finds finding
IsFound finds stop.Memory = Unit {0}
IsFound finds stop.Words = ⊥
IsFound finds (stop.NotRead place) = ⊥

abbrev pub IsNotPlanned : (description : Bytes) → Stop → Type 0
IsNotPlanned d why = IsFound (IsPlanFinding d) why

abbrev pub IsNotRun : (description : Bytes) → (script : Bytes) → Stop → Type 0
IsNotRun d s why = IsFound (IsRunFinding d s) why

-- of a script alone, over a plan
abbrev pub IsBadLine : Plan → (script : Bytes) → Finding → Type 0
IsBadLine p s (finding.Script line cause) = first_bad (saying p) [] (lines_of s) ≡ Some (line, cause)
IsBadLine p s (finding.Refused refusal) = ⊥
IsBadLine p s (finding.Trace checked) = ⊥
IsBadLine p s finding.NoComponent = ⊥
IsBadLine p s (finding.Clash name) = ⊥
IsBadLine p s (finding.RefusedOf refusal which) = ⊥
IsBadLine p s finding.NoLink = ⊥
IsBadLine p s finding.TooManyCores = ⊥

abbrev pub IsBadScript : Plan → (script : Bytes) → Stop → Type 0
IsBadScript p s why = IsFound (IsBadLine p s) why

-- of a trace alone, over a plan, a mapping and a script
abbrev pub IsNoTrace : Plan → Mapping → List Line → (trace : Bytes) → Finding → Type 0
IsNoTrace p m lines t (finding.Trace checked) = (checked ≢ Legal) × IsVerdict p m lines t checked
IsNoTrace p m lines t (finding.Refused refusal) = ⊥
IsNoTrace p m lines t (finding.Script line cause) = ⊥
IsNoTrace p m lines t finding.NoComponent = ⊥
IsNoTrace p m lines t (finding.Clash name) = ⊥
IsNoTrace p m lines t (finding.RefusedOf refusal which) = ⊥
IsNoTrace p m lines t finding.NoLink = ⊥
IsNoTrace p m lines t finding.TooManyCores = ⊥

abbrev pub IsRefusedTrace : Plan → Mapping → List Line → (trace : Bytes) → Stop → Type 0
IsRefusedTrace p m lines t why = IsFound (IsNoTrace p m lines t) why

abbrev pub IsNotLegal : (description : Bytes) → (trace : Bytes) → (script : Bytes) → Stop → Type 0
IsNotLegal d t s why = IsFound (IsCheckFinding d t s) why

-- of two descriptions and a script over both
abbrev pub IsNotPaired : (first : Bytes) → (second : Bytes) → (script : Bytes) → Stop → Type 0
IsNotPaired c d s why = IsFound (IsPairFinding c d s) why

-- of a description and stimuli over its plan
abbrev pub IsNotServed : (description : Bytes) → (stimuli : Bytes) → Stop → Type 0
IsNotServed d s why = IsFound (IsLiveFinding d s) why

-- of two descriptions the one at this place, counted from 1, is refused
abbrev pub stopped_at : Refused → (which : ℕ) → Stop
stopped_at (Rule refusal) which = stop.Found (finding.RefusedOf refusal which)
stopped_at Memory which = stop.Memory
