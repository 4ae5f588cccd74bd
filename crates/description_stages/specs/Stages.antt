-- What the stages of a description give, one after the other: rules 1 to 15, and the description made flat.
use Rattle.std.specs.Prelude.{◌≡◌, ℕ, List, Option, Some, None, ◌⊎◌}
use Rattle.rte_text.specs.declared.refusal.Refused.{Refused}
use Rattle.rte_text.specs.declared.refusal.Refused.TheVariants.{Rule, Memory}
use Rattle.plan_definitions.specs.Common.{Description, Flat, IsFlatOf, refusal}
use Rattle.component_model.specs.Descriptions.{description_of}
use Rattle.component_model.specs.Refusals as reading
use Rattle.component_model.specs.Refusals.{IsRead}
use Rattle.description_types.specs.Flattening as flattening
use Rattle.description_stages.specs.declared.joining.JoinedDescription.{JoinedDescription}

-- the bytes are read as the description, it is made flat, and what is joined may be joined
pub record IsJoinedOf (bytes : List ℕ) (j : JoinedDescription) : Type 0 where
  pub is_read : IsRead bytes (description_of j.description)
  pub is_flat : IsFlatOf j.description j.flat
  pub may_join : refusal j.description j.flat ≡ None

-- the rule and the place are those that are refused; want of memory may come at any time
abbrev pub IsToldAs : Option (ℕ × List ℕ) → Refused → Type 0
IsToldAs refused (Rule r) = refused ≡ Some (r.rule, r.place)
IsToldAs refused Memory = Unit {0}

-- the description is made flat, and the refusal is that of the rules on what is joined
pub record BreaksJoins (d : Description) (r : Refused) : Type 0 where
  pub flat : Flat
  pub is_flat : IsFlatOf d flat
  pub is_refusal : IsToldAs (refusal d flat) r

-- that of the rules on instances and connectors, or of those on what is joined
abbrev pub IsJoinRefusalOf : Description → Refused → Type 0
IsJoinRefusalOf d r = flattening.IsRefusalOf d r ⊎ BreaksJoins d r

-- the bytes are read, and the refusal is that of the later stages
pub record BreaksLater (bytes : List ℕ) (r : Refused) : Type 0 where
  pub description : Description
  pub is_read : IsRead bytes (description_of description)
  pub is_refusal : IsJoinRefusalOf description r

-- Which answer is right if the bytes are refused: that of the first stage that refuses them. Want of memory says nothing of them.
abbrev pub IsRefusalOf : List ℕ → Refused → Type 0
IsRefusalOf bytes r = reading.IsRefusalOf bytes r ⊎ BreaksLater bytes r
