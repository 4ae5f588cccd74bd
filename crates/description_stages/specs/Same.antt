-- When two planned descriptions are one. A program lies in memory in its own way, so two of them are the same if their trees are.
use Rattle.std.specs.Prelude.{◌≡◌}
use Rattle.component_model.specs.Descriptions.{description_of}
use Rattle.bus_semantics.specs.Plan.{plan_of}
use Rattle.plan_text.specs.Lines.{plan_text}
use Rattle.description_stages.specs.declared.planning.PlannedDescription.{PlannedDescription}

-- the same description, made flat in the same way, with the same plan, the same mapping and the same text
pub record IsSamePlan (x y : PlannedDescription) : Type 0 where
  pub description : description_of x.description ≡ description_of y.description
  pub flat : x.flat ≡ y.flat
  pub plan : plan_of x.plan ≡ plan_of y.plan
  pub mapping : x.mapping ≡ y.mapping
  pub text : plan_text x.description x.flat x.plan ≡ plan_text y.description y.flat y.plan
