-- What a description comes to: it is made flat, or it is refused.
use Rattle.rte_text.specs.declared.refusal.Refusal.{Refusal}
use Rattle.rte_text.specs.declared.refusal.Refused.TheVariants.{Rule}
use Rattle.plan_definitions.specs.Common.{Description, Flat, IsFlatOf, IsRefusalOf}

abbrev pub HasFlat : Description → Type 0
HasFlat d = (f : Flat) × IsFlatOf d f

abbrev pub HasRefusal : Description → Type 0
HasRefusal d = (r : Refusal) × IsRefusalOf d (Rule r)
