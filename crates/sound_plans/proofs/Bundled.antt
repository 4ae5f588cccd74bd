-- Bundles: each lists exactly the groups that coherent lists connect, and the bundles stand in order of their least groups.
use Rattle.std.proofs.Common.{◌≡◌, ℕ, suc, ◌+◌, ◌<◌, List, [], ◌∷◌, ◌++◌, length, map, filter, Bool, true, ◌&&◌, ◌==◌, nat_lt, Option, Some, None, option_map, option_to_list, slice_get}
use Rattle.std.proofs.Common.{refl, sym, ap, ◌∙◌, arith}
use Rattle.bus_semantics.specs.Common.{and_from, eq-eqb, lt-ltb, length-map, slice_get-map, slice_get_within, flat_map, list_all, option_map_or, same_number, groups_at, home_of, leaders_by}
use Rattle.bus_semantics.specs.Common.{Plan, every_from, group_of, plan_of, positions as bus_positions, bundles_fit, first_group, groups_listed, first_of, firsts, is_rising, same_numbers}
use Rattle.plan_definitions.specs.Common.{Description, Flat, elem_seen, elements, leaders, group_number, groups, heads, members, bundle_leaders, lists, positions, IsWhole}
use Rattle.bus_laws.specs.Common.{BusPlan, CoherentList, ElemPlan, Mapping}
use Rattle.plan_definitions.specs.Listed as listed
use Rattle.plan_definitions.specs.Listed.{group_at}
use Rattle.plan_definitions.proofs.Labels.{many_leaders}
use Rattle.plan_definitions.proofs.Lists.{map_get, position_there, same_numbers_refl, there}
use Rattle.sound_plans.proofs.Bounded.{bundles_are, groups_are, homes_are, lists_are}
use Rattle.sound_plans.proofs.Grouping.{each_within, every_position, kept_are, same_positions}
use Rattle.sound_plans.proofs.Heads.{first_is, groups_rise, here_head, number_is}
use Rattle.sound_plans.proofs.Leaders.{AreLeaders, are_leaders}
use Rattle.sound_plans.proofs.Seen.{elements_are}

-- ---- a plan of such bundles

module _ (p : Plan) (ls : List ℕ) (are : AreLeaders ls) (homes : p.homes ≡ map (group_number ls) ls) (bundles : p.bundles ≡ groups ls) where
  abbrev numbers : List ℕ
  numbers = map (group_number ls) ls

  home : (g l : ℕ) → slice_get ls g ≡ Some l → home_of p g ≡ Some (group_number ls l)
  home g l is = ap (λ hs. option_map_or (λ (b : ℕ). Some b) (slice_get hs g) None) homes ∙ ap (λ o. option_map_or (λ (b : ℕ). Some b) o None) (map_get (group_number ls) ls g l is)

  its_groups : (b : ℕ) → groups_at p b ≡ members numbers b
  its_groups b = ap (filter (λ g. same_number (home_of p g) (Some b))) (ap bus_positions (ap length homes ∙ length-map ls (group_number ls)) ∙ same_positions (length ls))
      ∙ kept_are (group_number ls) b (λ g. same_number (home_of p g) (Some b)) 0 ls
      (λ k l is. let z : 0 + k ≡ k = omega arith in ap (λ m. same_number (home_of p m) (Some b)) z ∙ ap (λ o. same_number o (Some b)) (home k l is))

  abbrev lists_groups : ℕ → List ℕ → Bool
  lists_groups b gs = same_numbers gs (groups_at p b) && nat_lt 0 (length gs)

  some : (gs : List ℕ) (h : ℕ) → first_of gs ≡ h ∷ [] → nat_lt 0 (length gs) ≡ true
  some [] h is = cc
  some (g ∷ gs) h is = lt-ltb 0 (suc (length gs)) (omega arith)

  each_bundle : every_from 0 lists_groups (groups ls) ≡ true
  each_bundle = every_position lists_groups (members numbers) 0 (length (heads ls)) each
    where
      each : (k : ℕ) → k < length (heads ls) → lists_groups (0 + k) (members numbers (0 + k)) ≡ true
      each k lt =
          let z : k ≡ 0 + k = omega arith in
          let h = there (heads ls) k lt in
          and_from (same_numbers (members numbers (0 + k)) (groups_at p (0 + k))) (nat_lt 0 (length (members numbers (0 + k))))
          (ap (same_numbers (members numbers (0 + k))) (its_groups (0 + k)) ∙ same_numbers_refl (members numbers (0 + k)))
          (some (members numbers (0 + k)) h.0 (ap (λ m. first_of (members numbers m)) (sym z) ∙ first_is ls are.low k h.0 h.1))

  -- the first group of a bundle is its leader
  first : (l : ℕ) → slice_get ls l ≡ Some l → first_group p (group_number ls l) ≡ l ∷ []
  first l is =
      let b = group_number ls l in
      let head : slice_get (heads ls) b ≡ Some l = number_is (heads ls) l (here_head ls l is) in
      let lt = slice_get_within (heads ls) b l head in
      let z : 0 + b ≡ b = omega arith in
      let at : slice_get (positions 0 (length (heads ls))) b ≡ Some b = position_there 0 (length (heads ls)) b lt ∙ ap (λ m. Some m) z in
      ap (λ gs. option_map_or first_of (slice_get gs b) []) bundles
      ∙ (ap (λ o. option_map_or first_of o []) (map_get (members numbers) (positions 0 (length (heads ls))) b b at) ∙ first_is ls are.low b l head)

  all_firsts : (xs : List ℕ) → ((n l : ℕ) → slice_get xs n ≡ Some l → slice_get ls l ≡ Some l) → flat_map (first_group p) (map (group_number ls) xs) ≡ xs
  all_firsts [] own = refl
  all_firsts (x ∷ xs) own = λ j. first x (own 0 x refl) j ++ all_firsts xs (λ n l is. own (suc n) l is) j

  pub bundles_sound : length p.groups ≡ length ls → leaders_by (length p.groups) (map (groups_listed p) p.lists) ≡ ls → bundles_fit p ≡ true
  bundles_sound long led =
      and_from (length p.homes == length p.groups) _ (eq-eqb (length p.homes) (length p.groups) (ap length homes ∙ (length-map ls (group_number ls) ∙ sym long)))
      (and_from (list_all (λ b. nat_lt b (length p.bundles)) p.homes) _
      ((λ j. list_all (λ b. nat_lt b (length (bundles j))) (homes j)) ∙ each_within (λ (b : ℕ). b) numbers ls are.low (itself numbers))
      (and_from (every_from 0 lists_groups p.bundles) _ (ap (every_from 0 lists_groups) bundles ∙ each_bundle)
      (and_from (is_rising (firsts p.bundles)) _ (ap (λ gs. is_rising (firsts gs)) bundles ∙ groups_rise ls are.low)
      ((λ j. same_numbers (flat_map (first_group p) (homes j)) (led j)) ∙ (ap (λ ms. same_numbers ms ls) (all_firsts ls are.own) ∙ same_numbers_refl ls)))))
    where
      itself : (xs : List ℕ) → map (λ (b : ℕ). b) xs ≡ xs
      itself [] = refl
      itself (x ∷ xs) = ap (λ ys. x ∷ ys) (itself xs)

-- ---- the plan of a description

module _ (d : Description) (f : Flat) (p : BusPlan) (m : Mapping) (w : IsWhole d f p m) where
  one_group : (x : ℕ) → option_to_list (group_of (plan_of p) x) ≡ group_at (elements d f) x
  one_group x = by (slice_get p.elements x) ∙ ap (λ o. option_map_or (λ e. e.group ∷ []) o []) (sym (slice_get-map elem_seen p.elements x)) ∙ ap (λ es. group_at es x) (elements_are d f p w.is_plan)
    where
      by : (o : Option ElemPlan) → option_to_list (option_map_or (λ (e : ElemPlan). Some e.group) o None) ≡ option_map_or (λ e. e.group ∷ []) (option_map elem_seen o) []
      by None = refl
      by (Some e) = refl

  same_groups : (c : CoherentList) → groups_listed (plan_of p) c ≡ listed.groups_listed (elements d f) c
  same_groups c = λ j. flat_map (λ x. one_group x j) c.elems

  led : leaders_by (length p.groups) (map (groups_listed (plan_of p)) p.lists) ≡ bundle_leaders d f
  led = λ j. leaders_by (length (groups_are d f p m w j)) (map (λ c. same_groups c j) (lists_are d f p m w j))

  pub bundled : bundles_fit (plan_of p) ≡ true
  bundled = bundles_sound (plan_of p) (bundle_leaders d f) (are_leaders (length (groups (leaders d f))) (map (listed.groups_listed (elements d f)) (lists d f)))
      (homes_are d f p m w) (bundles_are d f p m w)
      (ap length (groups_are d f p m w) ∙ sym (many_leaders (length (groups (leaders d f))) (map (listed.groups_listed (elements d f)) (lists d f)))) led
