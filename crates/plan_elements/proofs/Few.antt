-- Elements that 32 bits number, and their groups.
use Rattle.std.proofs.Common.{◌≡◌, ℕ, ◌^◌, ◌<◌, List, length, map, Option, Some, sym, ap, ◌∙◌, arith}
use Rattle.bus_semantics.specs.Common.{position_from, length-map}
use Rattle.plan_definitions.specs.Common.{Description, Flat, group_number, leader_of, leaders, Key, key_of, keys_of, same_key, HasFewThings, elements_of}
use Rattle.plan_definitions.specs.declared.site.Site.{Site}
use Rattle.plan_elements.proofs.Keys.{position_least}

-- as many as there are elements
all_lead : (d : Description) (f : Flat) → length (leaders d f) ≡ length (elements_of d f)
all_lead d f = length-map (elements_of d f) (leader_of f.joins (keys_of (elements_of d f)))

pub few_leaders : (d : Description) (f : Flat) (slice list : List ℕ) → slice ≡ list → list ≡ leaders d f → HasFewThings d f → length slice < 2 ^ 32
few_leaders d f slice list same are few = let as_many : length slice ≡ length (elements_of d f) = ap length (same ∙ are) ∙ all_lead d f in omega (arith, as_many, few.elements)

pub few_grouped : (d : Description) (f : Flat) (slice list : List ℕ) → slice ≡ list → list ≡ map (group_number (leaders d f)) (leaders d f) → HasFewThings d f → length slice < 2 ^ 32
few_grouped d f slice list same are few =
    let as_many : length slice ≡ length (elements_of d f) = ap length (same ∙ are) ∙ length-map (leaders d f) (group_number (leaders d f)) ∙ all_lead d f in omega (arith, as_many, few.elements)

pub few_elements : (d : Description) (f : Flat) (items : List Site) (count : ℕ) → count ≡ length items → items ≡ elements_of d f → HasFewThings d f → count < 2 ^ 32
few_elements d f items count is are few = let as_many : count ≡ length (elements_of d f) = is ∙ ap length are in omega (arith, as_many, few.elements)

-- a place among them
pub place_fits : (d : Description) (f : Flat) (k : Key) (place : Option ℕ) → place ≡ position_from (same_key k) 0 (keys_of (elements_of d f)) → HasFewThings d f → (p : ℕ) → place ≡ Some p → p < 2 ^ 32
place_fits d f k place found few p is =
    let least = position_least (same_key k) 0 p (keys_of (elements_of d f)) (sym found ∙ is) in
    omega (arith, least.1, length-map (elements_of d f) key_of, few.elements)
