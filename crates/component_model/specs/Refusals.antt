-- The refusal of a description by its first eight rules.
use Rattle.std.specs.Prelude.{◌≡◌, ℕ, List, Option, Some, None, ◌⊎◌}
use Rattle.std.specs.Option.{option_or}
use Rattle.serde_json.specs.Data.{Data}
use Rattle.rte_text.specs.declared.refusal.Refused.{Refused}
use Rattle.rte_text.specs.declared.refusal.Refused.TheVariants.{Rule, Memory}
use Rattle.description_places.specs.Rules as base
use Rattle.description_places.specs.Rules.{IsUnreadable, Reads}
use Rattle.description_types.specs.Lists.{first}
use Rattle.description_types.specs.Refusals.{of_rule, type_refusal}
use Rattle.component_model.specs.Descriptions.{DescriptionTree, reading}
use Rattle.component_model.specs.Initials.{broken_initials, initial_place}

-- that of a typed description: by the rules of types, and then by rule 8
abbrev pub typed_refusal : DescriptionTree → Option (ℕ × List ℕ)
typed_refusal d = option_or (type_refusal d.types) (first (of_rule 8 initial_place (broken_initials d)))

-- the least rule that the value breaks, with its first place
abbrev pub refusal : Data → Option (ℕ × List ℕ)
refusal d = option_or (base.refusal d) (typed_refusal (reading d))

-- the bytes are a description that breaks no rule, and this is its typed reading
pub record IsRead (bytes : List ℕ) (tree : DescriptionTree) : Type 0 where
  pub value : Data
  pub reads : Reads bytes value
  pub is_unbroken : refusal value ≡ None
  pub is_reading : tree ≡ reading value

-- the bytes are read, and this is the least rule that they break, with its first place
pub record Breaks (bytes : List ℕ) (rule : ℕ) (place : List ℕ) : Type 0 where
  pub value : Data
  pub reads : Reads bytes value
  pub is_least : refusal value ≡ Some (rule, place)

-- Which answer is right if bytes are refused. Want of memory says nothing of them.
abbrev pub IsRefusalOf : List ℕ → Refused → Type 0
IsRefusalOf bytes (Rule r) = IsUnreadable bytes r.rule r.place ⊎ Breaks bytes r.rule r.place
IsRefusalOf bytes Memory = Unit {0}
