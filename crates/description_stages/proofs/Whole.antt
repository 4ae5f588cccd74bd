-- The stages of a description put together.
use Rattle.std.proofs.Common.{◌<◌, ◌^◌, ℕ, sym, subst, length, List}
use Rattle.plan_definitions.specs.Common.{Description, Flat, IsWellFormed, IsWhole}
use Rattle.component_model.specs.Descriptions.{description_of}
use Rattle.component_model.specs.Refusals.{IsRead}
use Rattle.bus_semantics.specs.declared.plan.BusPlan.{BusPlan}
use Rattle.bus_semantics.specs.declared.script.Mapping.{Mapping}
use Rattle.bus_semantics.specs.Common.{plan_of, IsSound}
use Rattle.description_stages.specs.declared.joining.JoinedDescription.{JoinedDescription}
use Rattle.description_stages.specs.declared.planning.PlannedDescription.{PlannedDescription}
use Rattle.description_stages.specs.Plans.{IsPlannedFrom, IsPlannedOf}
use Rattle.description_stages.specs.Stages.{IsJoinedOf}

module _ (well : (bytes : List ℕ) (d : Description) → length bytes < 2 ^ 64 → IsRead bytes (description_of d) → IsWellFormed d)
    (sound : (d : Description) (f : Flat) (p : BusPlan) (m : Mapping) → IsWhole d f p m → IsSound (plan_of p) m)
    (bytes : List ℕ) (short : length bytes < 2 ^ 64) (j : JoinedDescription) (x : PlannedDescription) (joined : IsJoinedOf bytes j) (planned : IsPlannedFrom j x) where
  whole : IsWhole x.description x.flat x.plan x.mapping
  whole = subst (λ d. IsWhole d x.flat x.plan x.mapping) (sym planned.description) (subst (λ f. IsWhole j.description f x.plan x.mapping) (sym planned.flat) (record {
    well_formed = well bytes j.description short joined.is_read;
    is_flat = joined.is_flat;
    may_join = joined.may_join;
    keeps_rules = planned.keeps_rules;
    has_order = planned.has_order;
    is_plan = planned.is_plan;
    is_mapping = planned.is_mapping;
  }))

  pub planned_of : IsPlannedOf bytes x
  planned_of = record {
    is_read = subst (λ d. IsRead bytes (description_of d)) (sym planned.description) joined.is_read;
    is_whole = whole;
    is_sound = sound x.description x.flat x.plan x.mapping whole;
  }
