-- What `header C name` finds and puts: the calls that the code of a component may use (SWS_RTE: 'Contract Phase').
use Rattle.std.specs.Prelude.{◌≡◌}
use Rattle.rte_text.specs.declared.refusal.Refused.TheVariants.{Rule}
use Rattle.plan_text.specs.Headers.{Header, clash, header_of, made, no_component}
use Rattle.description_stages.specs.declared.planning.PlannedDescription.{PlannedDescription}
use Rattle.description_stages.specs.Plans.{IsPlanRefusalOf, IsPlannedOf}
use Rattle.commands.specs.declared.stop.Finding.{Finding}
use Rattle.commands.specs.declared.stop.Finding.TheVariants as finding
use Rattle.commands.specs.Commands.{Bytes}

-- the bytes are a description that breaks no rule, and this is what there is of the header of the component of this name
pub record HasHeader (description name : Bytes) (header : Header) : Type 0 where
  pub found : PlannedDescription
  pub planned : IsPlannedOf description found
  pub header_is : header_of found.description name ≡ header

-- the header is made, with some text
abbrev pub CanList : (description : Bytes) → (name : Bytes) → Type 0
CanList d name = (text : Bytes) × HasHeader d name (made text)

-- the description breaks a rule, or else no component has the name, or two of its calls clash
abbrev pub IsHeaderFinding : (description : Bytes) → (name : Bytes) → Finding → Type 0
IsHeaderFinding d name (finding.Refused refusal) = IsPlanRefusalOf d (Rule refusal)
IsHeaderFinding d name finding.NoComponent = HasHeader d name no_component
IsHeaderFinding d name (finding.Clash n) = HasHeader d name (clash n)
IsHeaderFinding d name (finding.Script line cause) = ⊥
IsHeaderFinding d name (finding.Trace checked) = ⊥
IsHeaderFinding d name (finding.RefusedOf refusal which) = ⊥
IsHeaderFinding d name finding.NoLink = ⊥
IsHeaderFinding d name finding.TooManyCores = ⊥

-- the text is that of the header
abbrev pub SaysHeader : (description : Bytes) → (name : Bytes) → (text : Bytes) → Type 0
SaysHeader d name text = HasHeader d name (made text)
