-- What `plan C` finds and puts: the plan of the description C.
use Rattle.std.specs.Prelude.{◌≡◌}
use Rattle.rte_text.specs.declared.refusal.Refused.TheVariants.{Rule}
use Rattle.description_stages.specs.declared.planning.PlannedDescription.{PlannedDescription}
use Rattle.description_stages.specs.Plans.{IsPlanRefusalOf, IsPlannedOf}
use Rattle.plan_text.specs.Lines.{plan_text}
use Rattle.commands.specs.declared.stop.Finding.{Finding}
use Rattle.commands.specs.declared.stop.Finding.TheVariants as finding
use Rattle.commands.specs.Commands.{Bytes}

-- the bytes are a description that breaks no rule, so it has a plan
abbrev pub CanPlan : (description : Bytes) → Type 0
CanPlan d = (found : PlannedDescription) × IsPlannedOf d found

abbrev pub IsPlanFinding : (description : Bytes) → Finding → Type 0
IsPlanFinding d (finding.Refused refusal) = IsPlanRefusalOf d (Rule refusal)
IsPlanFinding d (finding.Script line cause) = ⊥
IsPlanFinding d (finding.Trace checked) = ⊥
IsPlanFinding d finding.NoComponent = ⊥
IsPlanFinding d (finding.Clash name) = ⊥
IsPlanFinding d (finding.RefusedOf refusal which) = ⊥
IsPlanFinding d finding.NoLink = ⊥
IsPlanFinding d finding.TooManyCores = ⊥

-- the text is that of the plan of the description
pub record SaysPlan (description text : Bytes) : Type 0 where
  pub found : PlannedDescription
  pub planned : IsPlannedOf description found
  pub text_is : text ≡ plan_text found.description found.flat found.plan
