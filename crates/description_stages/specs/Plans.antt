-- What the stages of a description give to their end: rules 1 to 31, and the plan and the mapping.
use Rattle.std.specs.Prelude.{◌≡◌, ℕ, List, Option, Some, None, ◌⊎◌}
use Rattle.rte_text.specs.declared.refusal.Refused.{Refused}
use Rattle.rte_text.specs.declared.refusal.Refused.TheVariants.{Rule, Memory}
use Rattle.component_model.specs.Descriptions.{description_of}
use Rattle.component_model.specs.Refusals.{IsRead}
use Rattle.bus_semantics.specs.Plan as bus
use Rattle.bus_semantics.specs.Sound.{IsSound}
use Rattle.plan_definitions.specs.Common.{HaveOrder, mapping_of, plan_of, seen, IsRefusal, IsWhole}
use Rattle.description_stages.specs.declared.joining.JoinedDescription.{JoinedDescription}
use Rattle.description_stages.specs.declared.planning.PlannedDescription.{PlannedDescription}
use Rattle.description_stages.specs.Stages.{IsJoinedOf}
use Rattle.description_stages.specs.Stages as joining

-- the plan and the mapping of a joined description, which breaks none of rules 16 to 31
pub record IsPlannedFrom (j : JoinedDescription) (x : PlannedDescription) : Type 0 where
  pub description : x.description ≡ j.description
  pub flat : x.flat ≡ j.flat
  pub keeps_rules : IsRefusal j.description j.flat None
  pub has_order : HaveOrder j.description j.flat
  pub is_plan : seen x.plan ≡ plan_of j.description j.flat
  pub is_mapping : x.mapping ≡ mapping_of j.description j.flat

-- the bytes are read as the description, it breaks none of the rules, and the plan with its mapping is sound
pub record IsPlannedOf (bytes : List ℕ) (x : PlannedDescription) : Type 0 where
  pub is_read : IsRead bytes (description_of x.description)
  pub is_whole : IsWhole x.description x.flat x.plan x.mapping
  pub is_sound : IsSound (bus.plan_of x.plan) x.mapping

-- the rule and the place are those that are refused; want of memory may come at any time
abbrev pub IsToldBy : (Option (ℕ × List ℕ) → Type 0) → Refused → Type 0
IsToldBy is_refusal (Rule r) = is_refusal (Some (r.rule, r.place))
IsToldBy is_refusal Memory = Unit {0}

-- the bytes are a description that breaks none of rules 1 to 15, and the refusal is that of rules 16 to 31
pub record BreaksMapping (bytes : List ℕ) (r : Refused) : Type 0 where
  pub joined : JoinedDescription
  pub is_joined : IsJoinedOf bytes joined
  pub is_refusal : IsToldBy (IsRefusal joined.description joined.flat) r

-- Which answer is right if the bytes are refused: that of the first stage that refuses them. Want of memory says nothing of them.
abbrev pub IsPlanRefusalOf : List ℕ → Refused → Type 0
IsPlanRefusalOf bytes r = joining.IsRefusalOf bytes r ⊎ BreaksMapping bytes r
