-- A description that breaks none of the rules, made flat, with its plan and its mapping.
use Rattle.std.specs.Prelude.{◌≡◌, None}
use Rattle.description_types.specs.declared.description.Description.{Description}
use Rattle.description_types.specs.declared.flat.Flat.{Flat}
use Rattle.description_types.specs.Flattening.{IsFlatOf}
use Rattle.plan_definitions.specs.JoinRefusals as joins
use Rattle.bus_semantics.specs.declared.plan.BusPlan.{BusPlan}
use Rattle.bus_semantics.specs.declared.script.Mapping.{Mapping}
use Rattle.plan_definitions.specs.MappingRules.{HaveOrder}
use Rattle.plan_definitions.specs.Tasks.{mapping_of}
use Rattle.plan_definitions.specs.Planned.{plan_of, seen}
use Rattle.plan_definitions.specs.PlanRefusals.{IsRefusal}
use Rattle.plan_definitions.specs.WellFormed.{IsWellFormed}

pub record IsWhole (d : Description) (f : Flat) (p : BusPlan) (m : Mapping) : Type 0 where
  pub well_formed : IsWellFormed d
  pub is_flat : IsFlatOf d f
  pub may_join : joins.refusal d f ≡ None
  pub keeps_rules : IsRefusal d f None
  pub has_order : HaveOrder d f
  pub is_plan : seen p ≡ plan_of d f
  pub is_mapping : m ≡ mapping_of d f
