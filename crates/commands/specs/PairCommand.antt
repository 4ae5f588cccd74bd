-- What `pair C1 C2 S` finds and puts: a run of the script S on two nodes, of the descriptions C1 and C2, which a link of bytes joins.
use Rattle.std.specs.Prelude.{◌≡◌, ◌⊎◌, ◌<◌, ℕ, List, [], length, Some, true}
use Rattle.bus_semantics.specs.Common.{list_all, Plan, plan_of, item_fits, Letters}
use Rattle.rte_text.specs.declared.refusal.Refusal.{Refusal}
use Rattle.rte_text.specs.declared.refusal.Refused.TheVariants.{Rule}
use Rattle.bus_semantics.specs.declared.script.Line.{Line}
use Rattle.bus_semantics.specs.declared.script.Mapping.{Mapping}
use Rattle.description_stages.specs.declared.planning.PlannedDescription.{PlannedDescription}
use Rattle.description_stages.specs.Plans.{IsPlanRefusalOf, IsPlannedOf}
use Rattle.line_fields.specs.Texts.{lines_of}
use Rattle.script_reading.specs.Common.{Saying, IsScriptBy, first_bad, saying_around}
use Rattle.script_run.specs.Quieting.{IdlesAreQuiet}
use Rattle.pair_run.specs.Joint.{Joint, joint_text, one, two, side_of}
use Rattle.pair_run.specs.Linked.{linked_in, links_of}
use Rattle.pair_run.specs.Pairs.{IsBegunPairOf, IsPairOf}
use Rattle.commands.specs.declared.stop.Finding.{Finding}
use Rattle.commands.specs.declared.stop.Finding.TheVariants as finding
use Rattle.commands.specs.Commands.{Bytes}
use Rattle.commands.specs.PlanCommand.{CanPlan}

-- ---- the files

-- two descriptions that break no rule, with the second at the other end of the link
pub record AreDescribed (first second : Bytes) (found beside : PlannedDescription) : Type 0 where
  pub of_one : IsPlannedOf first found
  pub of_two : IsPlannedOf second beside

-- what a line of the script says: what it says over the plan of the first node, from whose linked elements no script receives
abbrev pub pair_saying : Plan → Plan → Letters → Saying
pair_saying p q t = saying_around p (linked_in p (links_of p q)) t

-- two descriptions with links between them, and a script over both
pub record ArePairInputs (first second script : Bytes) (found beside : PlannedDescription) (lines : List Line) : Type 0 where
  pub described : AreDescribed first second found beside
  pub linked : 0 < length (links_of (plan_of found.plan) (plan_of beside.plan))
  pub scripted : IsScriptBy (pair_saying (plan_of found.plan) (plan_of beside.plan)) script lines

abbrev pub CanPair : (first : Bytes) → (second : Bytes) → (script : Bytes) → Type 0
CanPair c d s = (found beside : PlannedDescription) × (lines : List Line) × ArePairInputs c d s found beside lines

-- ---- what is found of them

-- the first of the two descriptions that breaks a rule is this one, counted from 1
abbrev pub IsRefusedOf : (first : Bytes) → (second : Bytes) → Refusal → (which : ℕ) → Type 0
IsRefusedOf c d refusal which = ((which ≡ 1) × IsPlanRefusalOf c (Rule refusal)) ⊎ ((which ≡ 2) × CanPlan c × IsPlanRefusalOf d (Rule refusal))

-- no element is linked
pub record HaveNoLink (first second : Bytes) : Type 0 where
  pub found : PlannedDescription
  pub beside : PlannedDescription
  pub described : AreDescribed first second found beside
  pub none : links_of (plan_of found.plan) (plan_of beside.plan) ≡ []

-- some element is linked, and this is the first bad line of the script, with its least cause
pub record HaveBadPairLine (first second script : Bytes) (line cause : ℕ) : Type 0 where
  pub found : PlannedDescription
  pub beside : PlannedDescription
  pub described : AreDescribed first second found beside
  pub linked : 0 < length (links_of (plan_of found.plan) (plan_of beside.plan))
  pub bad : first_bad (pair_saying (plan_of found.plan) (plan_of beside.plan)) [] (lines_of script) ≡ Some (line, cause)

-- a description breaks a rule, or else no element is linked, or else a line of the script is refused
abbrev pub IsPairFinding : (first : Bytes) → (second : Bytes) → (script : Bytes) → Finding → Type 0
IsPairFinding c d s (finding.RefusedOf refusal which) = IsRefusedOf c d refusal which
IsPairFinding c d s finding.NoLink = HaveNoLink c d
IsPairFinding c d s (finding.Script line cause) = HaveBadPairLine c d s line cause
IsPairFinding c d s (finding.Refused refusal) = ⊥
IsPairFinding c d s (finding.Trace checked) = ⊥
IsPairFinding c d s finding.NoComponent = ⊥
IsPairFinding c d s (finding.Clash name) = ⊥
IsPairFinding c d s finding.TooManyCores = ⊥

-- ---- what is put

-- The bytes are the text of a run of the script on both nodes: each side is legal, its items fit its plan, and where a run line closes with `idle`
-- it is quiet. What crosses is what the links carry (`IsPairOf`).
pub record IsTextOfPair (p : Plan) (m : Mapping) (q : Plan) (n : Mapping) (script : List Line) (bytes : Bytes) : Type 0 where
  pub joint : Joint
  pub run : IsPairOf p m q n (links_of p q) script joint
  pub fit_one : list_all (item_fits p) (side_of one joint) ≡ true
  pub fit_two : list_all (item_fits q) (side_of two joint) ≡ true
  pub quiet_one : IdlesAreQuiet p [] (side_of one joint)
  pub quiet_two : IdlesAreQuiet q [] (side_of two joint)
  pub text_is : bytes ≡ joint_text p q joint

-- the bytes are the text of a begun run
pub record IsTextOfBegunPair (p : Plan) (m : Mapping) (q : Plan) (n : Mapping) (script : List Line) (bytes : Bytes) : Type 0 where
  pub joint : Joint
  pub run : IsBegunPairOf p m q n (links_of p q) script joint
  pub text_is : bytes ≡ joint_text p q joint

-- the headline of two nodes: the bytes are two linked descriptions and a script over them, and the text is that of a run of the script
pub record SaysPair (first second script text : Bytes) : Type 0 where
  pub found : PlannedDescription
  pub beside : PlannedDescription
  pub lines : List Line
  pub inputs : ArePairInputs first second script found beside lines
  pub run : IsTextOfPair (plan_of found.plan) found.mapping (plan_of beside.plan) beside.mapping lines text

-- the text is that of the beginning of such a run
pub record BeginsPair (first second script text : Bytes) : Type 0 where
  pub found : PlannedDescription
  pub beside : PlannedDescription
  pub lines : List Line
  pub inputs : ArePairInputs first second script found beside lines
  pub begun : IsTextOfBegunPair (plan_of found.plan) found.mapping (plan_of beside.plan) beside.mapping lines text
