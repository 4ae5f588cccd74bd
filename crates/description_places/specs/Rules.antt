-- The rules that each value of a description is judged by, and the refusal.
use Rattle.std.specs.Prelude.{◌≡◌, ℕ, List, [], ◌∷◌, Bool, ◌||◌, Option, Some, None, ◌⊎◌, IsUtf8, codes}
use Rattle.serde_json.specs.Data.{Data}
use Rattle.serde_json.specs.Read.{read}
use Rattle.rte_text.specs.declared.refusal.Refusal.{Refusal}
use Rattle.rte_text.specs.declared.refusal.Refused.{Refused}
use Rattle.rte_text.specs.declared.refusal.Refused.TheVariants.{Rule, Memory}
use Rattle.description_places.specs.Catalogs.{catalog_of}
use Rattle.description_places.specs.declared.catalogs.Catalog.{Catalog}
use Rattle.description_places.specs.Distinct.{breaks_distinct}
use Rattle.description_places.specs.References.{breaks_references}
use Rattle.description_shapes.specs.Rules.{breaks_names, breaks_shape, breaks_shape_or_names, visits_of}
use Rattle.description_shapes.specs.Visits.{Visit, first_broken}

-- Rule 4: what a list declares has distinct names; the place is the second one. Lists of names that refer declare none.
-- Rule 5: what the names refer to is declared.

-- rules 4 and 5 together, and all from 2 to 5
abbrev pub is_misnamed : Catalog → Visit → Bool
is_misnamed lists v = breaks_distinct lists v || breaks_references lists v

abbrev pub breaks_any : Catalog → Visit → Bool
breaks_any lists v = breaks_shape_or_names v || is_misnamed lists v

-- a place as it is written: a JSON pointer, the whole as `/`
abbrev pub written : List ℕ → List ℕ
written [] = codes "/"
written (b ∷ bs) = b ∷ bs

abbrev pub rule_and_place : Refusal → ℕ × List ℕ
rule_and_place r = (r.rule, r.place)

-- this rule with its first place, if it is broken, else what comes of the later rules
abbrev pub least_of : ℕ → Option (List ℕ) → Option (ℕ × List ℕ) → Option (ℕ × List ℕ)
least_of rule (Some place) later = Some (rule, written place)
least_of rule None later = later

-- the refusal of what the description d declares and refers to, by its lists
abbrev pub refusal_by : Catalog → Data → Option (ℕ × List ℕ)
refusal_by lists d =
    least_of 4 (first_broken (breaks_distinct lists) (visits_of d))
    (least_of 5 (first_broken (breaks_references lists) (visits_of d))
    None)

abbrev pub refusal_of_names : Data → Option (ℕ × List ℕ)
refusal_of_names d = refusal_by (catalog_of d) d

-- the refusal of the description d: the least rule that is broken, with its first place
abbrev pub refusal : Data → Option (ℕ × List ℕ)
refusal d =
    least_of 2 (first_broken breaks_shape (visits_of d))
    (least_of 3 (first_broken breaks_names (visits_of d))
    (refusal_of_names d))

-- the bytes are a value that serde_json reads
abbrev pub Reads : List ℕ → Data → Type 0
Reads bytes d = IsUtf8 bytes × (read bytes ≡ Some d)

-- the bytes are read, and this is the least rule that they break, with its first place
pub record Breaks (bytes : List ℕ) (rule : ℕ) (place : List ℕ) : Type 0 where
  pub value : Data
  pub reads : Reads bytes value
  pub is_least : refusal value ≡ Some (rule, place)

-- rule 1: the bytes are no value that serde_json reads
abbrev pub IsUnreadable : List ℕ → ℕ → List ℕ → Type 0
IsUnreadable bytes rule place = (rule ≡ 1) × (place ≡ codes "/") × ((d : Data) → ¬ Reads bytes d)

-- Which answer is right if bytes are refused. Want of memory says nothing of them.
abbrev pub IsRefusalOf : List ℕ → Refused → Type 0
IsRefusalOf bytes (Rule r) = IsUnreadable bytes r.rule r.place ⊎ Breaks bytes r.rule r.place
IsRefusalOf bytes Memory = Unit {0}

-- the bytes are a description that breaks no rule
abbrev pub IsUnbroken : List ℕ → Data → Type 0
IsUnbroken bytes d = Reads bytes d × (refusal d ≡ None)
