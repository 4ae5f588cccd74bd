-- A bundle as it is made: each group has those of the bundle's events that wait for it.
use Rattle.std.proofs.Common.{◌≡◌, ◌<◌, ◌≤◌, ℕ, suc, Bool, true, false, ◌&&◌, ◌==◌, if◌then◌else◌, refl, sym, ◌∙◌, ap, subst, arith, List, [], ◌∷◌, length, map, Option, Some, None}
use Rattle.std.specs.Prelude.{filter, nat_lt, option_and_then, unwrap_or}
use Rattle.bus_semantics.specs.Common.{list_all, slice_get, false≢true, eq-eqb, eqb-true, nat_tests, length-map, same_Some, slice_get_within, same_number, Plan, group_of, kind_of, positions}
use Rattle.bus_semantics.specs.Common.{home_of, bundle_of, groups_at, is_in_group, bundles_fit}
use Rattle.bus_laws.specs.Common.{EventKind, DataReceived}
use Rattle.bus_laws.proofs.Bundling.{begins, begun_home, home_there, homes_counted, positions_counted}
use Rattle.object_kinds.specs.Layout.{place, element_in, events_of, waits_for_data, waits_in_bundle}
use Rattle.object_kinds.proofs.Lists.{mapped_at}
use Rattle.object_kinds.proofs.Options.{clash, number_is, is_number, then_some}
use Rattle.object_kinds.proofs.Placing.{place_within}
use Rattle.data_objects.specs.Kept as groups
use Rattle.data_objects.specs.Plans.{IsGroupOfPlan}
use Rattle.bundle_objects.specs.Layout.{IsBundle, place_among, place_of}
use Rattle.bundle_objects.specs.Kept.{opening}
use Rattle.bundle_objects.specs.Plans.{IsOfPlan}
use Rattle.bundle_objects.proofs.Parts.{numbers_rise, group_placed, number_home, one_place}

-- ---- a bundle has a group

pub some_group : (p : Plan) (b : ℕ) → bundles_fit p ≡ true → b < length p.bundles → 0 < length (groups_at p b)
some_group p b fit below =
    let first = begins p fit b below in
    let home = home_there p fit first.0 b (begun_home p fit b first.0 first.1) in
    let there = group_placed p b (groups_at p b) first.0 refl home in
    let within : there.at < length (groups_at p b) = slice_get_within (groups_at p b) there.at first.0 there.number in
    omega arith

-- ---- the events of a group

-- what passes two tests
filter_twice : (f h q : ℕ → Bool) (xs : List ℕ) → ((x : ℕ) → (h x && f x) ≡ q x) → filter f (filter h xs) ≡ filter q xs
filter_twice f h q [] both = refl
filter_twice f h q (x ∷ xs) both = by_test (h x) refl (filter_twice f h q xs both)
  where
    by_test : (b : Bool) → h x ≡ b → filter f (filter h xs) ≡ filter q xs → filter f (if b then x ∷ filter h xs else filter h xs) ≡ (if q x then x ∷ filter q xs else filter q xs)
    by_test false off rest =
        let none : q x ≡ false = sym (both x) ∙ ap (λ t. t && f x) off in
        rest ∙ sym (ap (λ t. if t then x ∷ filter q xs else filter q xs) none)
    by_test true on rest =
        let same : f x ≡ q x = sym (ap (λ t. t && f x) on) ∙ both x in
        (λ i. if same i then x ∷ rest i else rest i)

module _ (p : Plan) (b i g : ℕ) (number : slice_get (groups_at p b) i ≡ Some g) where
  -- an event of the bundle goes to the place of the group for which it waits
  goes_by : (k : EventKind) → (waits_in_bundle p b k && (unwrap_or (option_and_then (λ h. place h (groups_at p b)) (group_of p (element_in k))) 0 == i)) ≡ waits_for_data p g k
  goes_by (DataReceived x) = by_home (same_number (bundle_of p x) (Some b)) refl
    where
      home : home_of p g ≡ Some b
      home = number_home p b (groups_at p b) i g refl number

      outside : (t : Bool) → is_in_group p g x ≡ t → same_number (bundle_of p x) (Some b) ≡ false → t ≡ false
      outside false is off = refl
      outside true is off = clash (same_number (bundle_of p x) (Some b)) (is_number (bundle_of p x) b (ap (option_and_then (home_of p)) (number_is (group_of p x) g is) ∙ home)) off

      by_place : (h j : ℕ) → group_of p x ≡ Some h → slice_get (groups_at p b) j ≡ Some h → (t : Bool) → (j == i) ≡ t → t ≡ is_in_group p g x
      by_place h j is there true same =
          let group : h ≡ g = same_Some h g (sym there ∙ ap (slice_get (groups_at p b)) (eqb-true j i same) ∙ number) in
          sym (is_number (group_of p x) g (is ∙ ap (λ f. Some f) group))
      by_place h j is there false other = by_test (is_in_group p g x) refl
        where
          by_test : (t : Bool) → is_in_group p g x ≡ t → false ≡ t
          by_test false at = refl
          by_test true at =
              let group : h ≡ g = same_Some h g (sym is ∙ number_is (group_of p x) g at) in
              let same : j ≡ i = one_place (groups_at p b) j i g (numbers_rise p b) (there ∙ ap (λ f. Some f) group) number in
              clash (j == i) (eq-eqb j i same) other

      by_home : (t : Bool) → same_number (bundle_of p x) (Some b) ≡ t → (same_number (bundle_of p x) (Some b) && (unwrap_or (option_and_then (λ h. place h (groups_at p b)) (group_of p x)) 0 == i)) ≡ is_in_group p g x
      by_home false off = ap (λ t. t && (unwrap_or (option_and_then (λ h. place h (groups_at p b)) (group_of p x)) 0 == i)) off ∙ sym (outside (is_in_group p g x) refl off)
      by_home true on =
          let of = then_some (home_of p) (group_of p x) b (number_is (bundle_of p x) b on) in
          let there = group_placed p b (groups_at p b) of.item refl of.gives in
          let goes : unwrap_or (option_and_then (λ h. place h (groups_at p b)) (group_of p x)) 0 ≡ there.at =
          ap (λ o. unwrap_or (option_and_then (λ h. place h (groups_at p b)) o) 0) of.is ∙ ap (λ o. unwrap_or o 0) there.is in
          ap (λ t. t && (unwrap_or (option_and_then (λ h. place h (groups_at p b)) (group_of p x)) 0 == i)) on
          ∙ ap (λ j. j == i) goes
          ∙ by_place of.item there.at of.is there.number (there.at == i) refl
  goes_by k = refl

  pub split_is : filter (λ e. place_among p (groups_at p b) e == i) (events_of p (waits_in_bundle p b)) ≡ events_of p (waits_for_data p g)
  split_is = filter_twice (λ e. place_among p (groups_at p b) e == i) (λ e. waits_in_bundle p b (kind_of p e)) (λ e. waits_for_data p g (kind_of p e)) (positions (length p.events)) (λ e. goes_by (kind_of p e))

-- ---- places are places

pub among_within : (p : Plan) (numbers : List ℕ) (e : ℕ) → 0 < length numbers → place_among p numbers e < length numbers
among_within p numbers e some = by_group (option_and_then (λ g. place g numbers) (group_of p (element_in (kind_of p e)))) refl
  where
    by_group : (o : Option ℕ) → option_and_then (λ g. place g numbers) (group_of p (element_in (kind_of p e))) ≡ o → unwrap_or o 0 < length numbers
    by_group None is = some
    by_group (Some i) is =
        let of = then_some (λ g. place g numbers) (group_of p (element_in (kind_of p e))) i is in
        place_within of.item numbers i of.gives

pub places_within : (p : Plan) (numbers : List ℕ) (n : ℕ) → 0 < length numbers → length numbers ≡ n → (es : List ℕ) → list_all (λ i. nat_lt i n) (map (place_among p numbers) es) ≡ true
places_within p numbers n some long [] = refl
places_within p numbers n some long (e ∷ es) =
    let within : place_among p numbers e < length numbers = among_within p numbers e some in
    let first : nat_lt (place_among p numbers e) n ≡ true = grind (arith, nat_tests) in
    λ j. first j && places_within p numbers n some long es j

-- ---- what is made is the plan's

pub opening_planned : (p : Plan) (b : ℕ) → IsBundle p b → IsOfPlan p b (opening p b)
opening_planned p b is_bundle = record {
  is_bundle = is_bundle;
  numbers = refl;
  waiting = refl;
  places = refl;
  counted = length-map (groups_at p b) (groups.opening p);
  parts = λ i g part number found.
      let is : groups.opening p g ≡ part = same_Some (groups.opening p g) part (sym (mapped_at (groups.opening p) (groups_at p b) i g number) ∙ found) in
      subst (λ q. IsGroupOfPlan p g q) is (record { is_group = is_bundle.groups g (number_home p b (groups_at p b) i g refl number); waiting = refl; inits = refl; receivers = refl });
}

-- ---- as many groups as the plan has, at most

passing_within : (t : ℕ → Bool) (xs : List ℕ) → length (filter t xs) ≤ length xs
passing_within t [] = omega arith
passing_within t (x ∷ xs) = by_test (t x) (passing_within t xs)
  where
    by_test : (b : Bool) → length (filter t xs) ≤ length xs → length (if b then x ∷ filter t xs else filter t xs) ≤ suc (length xs)
    by_test true rest = omega (arith, rest)
    by_test false rest = omega (arith, rest)

pub groups_within : (p : Plan) (b : ℕ) → bundles_fit p ≡ true → length (groups_at p b) ≤ length p.groups
groups_within p b fit =
    let few : length (groups_at p b) ≤ length (positions (length p.homes)) = passing_within (λ g. same_number (home_of p g) (Some b)) (positions (length p.homes)) in
    omega (arith, few, positions_counted (length p.homes), homes_counted p fit)
