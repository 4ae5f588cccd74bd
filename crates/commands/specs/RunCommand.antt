-- What `run C S` finds and puts: a run of the script S on the bus of the description C.
use Rattle.std.specs.Prelude.{◌≡◌, List, [], true}
use Rattle.bus_semantics.specs.Common.{list_all, Plan, plan_of, item_fits, Session, IsRunOf, IsBegunRunOf, Spells}
use Rattle.rte_text.specs.declared.refusal.Refused.TheVariants.{Rule}
use Rattle.bus_semantics.specs.declared.script.Line.{Line}
use Rattle.bus_semantics.specs.declared.script.Mapping.{Mapping}
use Rattle.bus_semantics.specs.declared.version.Version.TheVariants.{Two}
use Rattle.description_stages.specs.declared.planning.PlannedDescription.{PlannedDescription}
use Rattle.description_stages.specs.Plans.{IsPlanRefusalOf}
use Rattle.script_run.specs.Quieting.{IdlesAreQuiet}
use Rattle.commands.specs.declared.stop.Finding.{Finding}
use Rattle.commands.specs.declared.stop.Finding.TheVariants as finding
use Rattle.commands.specs.Commands.{Bytes}
use Rattle.commands.specs.Inputs.{AreInputs, HaveBadLine}

-- The bytes are the text of a run of the script over the plan, whose items fit it, and if a run line closes with `idle` all is quiet: no activation runs, no
-- event is due, and each mode machine has begun every accepted switch and is stable. Its last phase is a Stable, so what it began has ended.
pub record IsTextOfRun (p : Plan) (m : Mapping) (script : List Line) (bytes : Bytes) : Type 0 where
  pub session : Session
  pub fit : list_all (item_fits p) session ≡ true
  pub run : IsRunOf p m script session
  pub quiet : IdlesAreQuiet p [] session
  pub spelled : Spells Two p bytes session

-- the bytes are the text of a begun run
pub record IsTextOfBeginning (p : Plan) (m : Mapping) (script : List Line) (bytes : Bytes) : Type 0 where
  pub session : Session
  pub run : IsBegunRunOf p m script session
  pub spelled : Spells Two p bytes session

-- the bytes are a description and a script over its plan, so it can be run
abbrev pub CanRun : (description : Bytes) → (script : Bytes) → Type 0
CanRun d s = (found : PlannedDescription) × (lines : List Line) × AreInputs d s found lines

-- the description breaks a rule, or else a line of the script is refused
abbrev pub IsRunFinding : (description : Bytes) → (script : Bytes) → Finding → Type 0
IsRunFinding d s (finding.Refused refusal) = IsPlanRefusalOf d (Rule refusal)
IsRunFinding d s (finding.Script line cause) = HaveBadLine d s line cause
IsRunFinding d s (finding.Trace checked) = ⊥
IsRunFinding d s finding.NoComponent = ⊥
IsRunFinding d s (finding.Clash name) = ⊥
IsRunFinding d s (finding.RefusedOf refusal which) = ⊥
IsRunFinding d s finding.NoLink = ⊥
IsRunFinding d s finding.TooManyCores = ⊥

-- the headline: the bytes are a description and a script over its plan, and the text spells a run of that script
pub record SaysRun (description script text : Bytes) : Type 0 where
  pub found : PlannedDescription
  pub lines : List Line
  pub inputs : AreInputs description script found lines
  pub run : IsTextOfRun (plan_of found.plan) found.mapping lines text

-- the text spells the beginning of such a run
pub record BeginsRun (description script text : Bytes) : Type 0 where
  pub found : PlannedDescription
  pub lines : List Line
  pub inputs : AreInputs description script found lines
  pub begun : IsTextOfBeginning (plan_of found.plan) found.mapping lines text
