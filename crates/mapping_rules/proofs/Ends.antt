-- Ends as keys.
use Rattle.std.proofs.Common.{◌≡◌, ℕ, ◌+◌, List, [], ◌∷◌, ◌++◌, map, Bool, true, false, cond, ◌&&◌, ◌||◌, nat_eq, is_some, is_none, Option, Some, option_map, refl, ◌∙◌, find}
use Rattle.bus_semantics.specs.Common.{list_any, flat_map, position_from, lookup, option_eq}
use Rattle.plan_definitions.specs.Common.{End, Join, same_end, provider_of}
use Rattle.mapping_rules.specs.Listed.{triple, provided_for, outside_at}
use Rattle.plan_definitions.proofs.Keys.{nat_eq_sym, option_eq_sym}

same_end-sym : (a b : End) → same_end a b ≡ same_end b a
same_end-sym a b = λ j. (option_eq_sym a.instance b.instance j && nat_eq_sym a.port b.port j) && nat_eq_sym a.element b.element j

abbrev pub same_triple : Option ℕ × ℕ × ℕ → Option ℕ × ℕ × ℕ → Bool
same_triple a b = (option_eq nat_eq a.0 b.0 && nat_eq a.1 b.1) && nat_eq a.2 b.2

pub provider_found : (e : End) (joins : List Join) → lookup (same_triple (triple e)) (map provided_for joins) ≡ provider_of joins e
provider_found e [] = refl
provider_found e (j ∷ js) = by (same_end e j.required) (same_end j.required e) (same_end-sym e j.required) (provider_found e js)
  where
    by : (s t : Bool) → s ≡ t → lookup (same_triple (triple e)) (map provided_for js) ≡ provider_of js e
        → cond s (Some j.provided) (lookup (same_triple (triple e)) (map provided_for js)) ≡ option_map (λ (j : Join). j.provided) (cond t (Some j) (find (λ j. same_end j.required e) js))
    by true true same so_far = refl
    by false false same so_far = so_far
    by true false same so_far = cc
    by false true same so_far = cc

any_position : {K : Type 0} (test : K → Bool) (n : ℕ) (ks : List K) → is_some (position_from test n ks) ≡ list_any test ks
any_position test n [] = refl
any_position test n (k ∷ ks) = by (test k) (any_position test (n + 1) ks)
  where
    by : (b : Bool) → is_some (position_from test (n + 1) ks) ≡ list_any test ks → is_some (cond b (Some n) (position_from test (n + 1) ks)) ≡ (b || list_any test ks)
    by true so_far = refl
    by false so_far = so_far

module _ (e : End) where
  step : (s b r : Bool) (k : Option ℕ × ℕ × ℕ) (ks : List (Option ℕ × ℕ × ℕ)) → same_triple (triple e) k ≡ s → list_any (same_triple (triple e)) ks ≡ r
      → list_any (same_triple (triple e)) (cond b (k ∷ []) [] ++ ks) ≡ ((s && b) || r)
  step true true r k ks h so_far = λ j. h j || so_far j
  step false true r k ks h so_far = λ j. h j || so_far j
  step true false r k ks h so_far = so_far
  step false false r k ks h so_far = so_far

  any_outside : (js : List Join) → list_any (same_triple (triple e)) (flat_map outside_at js) ≡ list_any (λ j. same_end e j.provided && is_none j.required.instance) js
  any_outside [] = refl
  any_outside (j ∷ js) = step (same_end e j.provided) (is_none j.required.instance) (list_any (λ j. same_end e j.provided && is_none j.required.instance) js) (triple j.provided) (flat_map outside_at js)
      refl (any_outside js)

  pub outside_found : (js : List Join) → is_some (position_from (same_triple (triple e)) 0 (flat_map outside_at js)) ≡ list_any (λ j. same_end e j.provided && is_none j.required.instance) js
  outside_found js = any_position (same_triple (triple e)) 0 (flat_map outside_at js) ∙ any_outside js
