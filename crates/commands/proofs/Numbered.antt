-- The plan of a description is sound with a mapping, and 32 bits number its elements and its mode elements.
use Rattle.std.proofs.Common.{ℕ, List}
use Rattle.bus_semantics.specs.declared.script.Mapping.{Mapping}
use Rattle.bus_semantics.specs.Common.{plan_of, IsSound}
use Rattle.event_mapping.proofs.FewNumbers.{few_numbers, keeps_size}
use Rattle.description_stages.specs.declared.planning.PlannedDescription.{PlannedDescription}
use Rattle.description_stages.specs.Plans.{IsPlannedOf}
use Rattle.description_stages.proofs.Limits.{few_joins}
use Rattle.script_reading.specs.Numbers.{HasFewNumbers}

pub sound : (bytes : List ℕ) (x : PlannedDescription) → IsPlannedOf bytes x → (m : Mapping) × IsSound (plan_of x.plan) m
sound bytes x planned = (x.mapping, planned.is_sound)

pub numbered : (bytes : List ℕ) (x : PlannedDescription) → IsPlannedOf bytes x → HasFewNumbers (plan_of x.plan)
numbered bytes x planned =
    let whole = planned.is_whole in
    let few = few_numbers x.plan x.description x.flat whole.is_plan (keeps_size x.description x.flat whole.keeps_rules) (few_joins x.description x.flat whole.is_flat) in
    record {
      elements = few.elements;
      mode_ports = few.mode_ports;
    }
