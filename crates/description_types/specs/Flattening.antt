-- What a description is, made flat, and which of the rules 9 to 11 it breaks.
use Rattle.std.specs.Prelude.{◌≡◌, ◌≤◌, ℕ, List, ◌++◌, codes, false, length, Some, None, ◌⊎◌, ◌↔◌}
use Rattle.std.specs.Fmt.{decimal}
use Rattle.std.specs.List.Sorted.{IsStrictlySortedBy}
use Rattle.description_types.specs.declared.description.Description.{Description}
use Rattle.rte_text.specs.declared.refusal.Refused.{Refused}
use Rattle.rte_text.specs.declared.refusal.Refused.TheVariants.{Rule, Memory}
use Rattle.description_types.specs.declared.flat.Flat.{Flat}
use Rattle.description_types.specs.declared.flat.Join.{Join}
use Rattle.description_types.specs.Connectors.{IsFirstBroken}
use Rattle.description_types.specs.Firsts.{IsFirst}
use Rattle.description_types.specs.Growing.{IsPastLimit}
use Rattle.description_types.specs.Instances.{instances, names_env}
use Rattle.description_types.specs.Places.{places, IsTooDeep}
use Rattle.description_types.specs.Joined.{IsJoined}
use Rattle.description_types.specs.Members.{Among}
use Rattle.description_types.specs.Orders.{join_order}
use Rattle.description_types.specs.Paths.{ContainsItself}

-- rule 9: no composition contains itself
abbrev pub KeepsNesting : Description → Type 0
KeepsNesting d = IsFirst (ContainsItself d) (length d.compositions) None

-- rule 10: the root has at most 1,024 instances, each at most 8 prototypes deep, none of its prototypes is named `env`, and at
-- most 65,536 pairs of items are joined
pub record KeepsLimits (d : Description) : Type 0 where
  pub instances : length (places d) ≤ 1024
  pub depth : ¬ IsTooDeep d
  pub names : names_env d ≡ false
  pub joins : ¬ IsPastLimit (IsJoined d)

-- rule 11: each connector joins ports that it may join, and none of a composition is equal to an earlier one
abbrev pub KeepsConnectors : Description → Type 0
KeepsConnectors d = IsFirstBroken d None

-- the description, made flat: the instances depth first, and exactly the joined pairs, each once and in order
pub record IsFlatOf (d : Description) (f : Flat) : Type 0 where
  pub nesting : KeepsNesting d
  pub limits : KeepsLimits d
  pub connectors : KeepsConnectors d
  pub instances_listed : f.instances ≡ instances d
  pub in_order : IsStrictlySortedBy join_order f.joins
  pub joined : (j : Join) → Among j f.joins ↔ IsJoined d j

abbrev pub composition_place : ℕ → List ℕ
composition_place c = codes "/compositions/" ++ decimal c

abbrev pub connector_place : ℕ × ℕ → List ℕ
connector_place p = (composition_place p.0 ++ codes "/connectors/") ++ decimal p.1

-- a rule is broken if the lower ones hold, and this is its first place
abbrev pub IsRefusedAt : Description → ℕ → List ℕ → Type 0
IsRefusedAt d rule place =
    ((rule ≡ 9) × ((c : ℕ) × IsFirst (ContainsItself d) (length d.compositions) (Some c) × (place ≡ composition_place c)))
    ⊎ (((rule ≡ 10) × KeepsNesting d × (¬ KeepsLimits d) × (place ≡ codes "/root"))
    ⊎ ((rule ≡ 11) × KeepsNesting d × KeepsLimits d × ((p : ℕ × ℕ) × IsFirstBroken d (Some p) × (place ≡ connector_place p))))

-- which answer is right if the description is refused; want of memory says nothing of it
abbrev pub IsRefusalOf : Description → Refused → Type 0
IsRefusalOf d (Rule r) = IsRefusedAt d r.rule r.place
IsRefusalOf d Memory = Unit {0}
