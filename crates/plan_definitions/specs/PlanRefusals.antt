-- What is refused of a description made flat, by the rules on components, on the mapping and on the instances.
use Rattle.std.specs.Prelude.{◌≡◌, ℕ, List, Option, Some, None, ◌⊎◌, if◌then◌else◌}
use Rattle.description_types.specs.declared.description.Description.{Description}
use Rattle.description_types.specs.declared.flat.Flat.{Flat}
use Rattle.plan_definitions.specs.declared.component_rule.ComponentRule.TheVariants as rule
use Rattle.plan_definitions.specs.ComponentRefusals as components
use Rattle.plan_definitions.specs.MappingRefusals.{mapping_text, IsAfter}
use Rattle.plan_definitions.specs.MappingRefusals as mapping
use Rattle.plan_definitions.specs.Planned.{Planned, plan_of}
use Rattle.plan_definitions.specs.PlanRules.{is_too_large}

-- rule 30, at the mapping
abbrev pub of_size : Planned → Option (ℕ × List ℕ)
of_size p = if is_too_large p then Some (30, mapping_text) else None

abbrev pub IsOfSize : Description → Flat → Option (ℕ × List ℕ) → Type 0
IsOfSize d f refused = of_size (plan_of d f) ≡ refused

-- rule 31, at the list
abbrev pub IsOfLists : Description → Option (ℕ × List ℕ) → Type 0
IsOfLists d refused = components.of_rule rule.CoherentLists d ≡ refused

-- what the first refuses, or else the later one
abbrev pub IsThen : (first later : Option (ℕ × List ℕ) → Type 0) → Option (ℕ × List ℕ) → Type 0
IsThen first later None = first None × later None
IsThen first later (Some x) = first (Some x) ⊎ (first None × later (Some x))

-- The refusal: the least of rules 16 to 31 that is broken, with its first place.
abbrev pub IsRefusal : Description → Flat → Option (ℕ × List ℕ) → Type 0
IsRefusal d f = IsAfter (components.refusal d) (IsThen (mapping.IsRefusal d f) (IsThen (IsOfSize d f) (IsOfLists d)))
