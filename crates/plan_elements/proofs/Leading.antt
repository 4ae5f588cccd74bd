-- The least number in the group of each element, found by numbers.
use Rattle.std.proofs.Common.{◌≡◌, ℕ, zero, suc, ◌+◌, ◌<◌, ◌≤◌, ◌-◌, List, [], ◌∷◌, ◌++◌, append_assoc, map, length, get_or, min, Bool, true, false, cond, nat_eq, Option, Some, None, refl}
use Rattle.std.proofs.Common.{sym, ap, ◌∙◌, arith}
use Rattle.bus_semantics.specs.Common.{flat_map, position_from, option_eq, unwrap_or, get_or-map, length-map, map-append, eqb-true, eq-eqb, true≢false}
use Rattle.std.proofs.lemmas.Grind.{same_number_lists}
use Rattle.plan_definitions.specs.Common.{Description, End, Flat, Join, leaders, Key, end_key, key_of, keys_of, number_in, same_key, positions, site, elements_of, leader_of, least, nearest}
use Rattle.plan_definitions.specs.Common.{own_number}
use Rattle.plan_definitions.specs.declared.site.Site.{Site}
use Rattle.plan_definitions.specs.declared.site.SiteKind.{SiteKind}
use Rattle.plan_definitions.specs.declared.site.SiteKind.TheVariants.{Variable}
use Rattle.plan_definitions.proofs.Keys.{same_key_is, same_key_refl}
use Rattle.plan_elements.proofs.Keys.{and_none, position_least, same_place}
use Rattle.plan_elements.proofs.Standing.{own_place}
use Rattle.plan_elements.specs.Ends.{pairs_of}
use Rattle.plan_elements.specs.Spreads.{across_pair, number_at, spread_numbers}
use Rattle.plan_definitions.proofs.Lists.{many_positions}

found_at : (o : Option ℕ) (n : ℕ) → unwrap_or o 0 ≡ suc n → o ≡ Some (suc n)
found_at None n e = absurd (omega (arith, e))
found_at (Some m) n e = ap (λ k. Some k) e

-- the ends on the other sides of the joins of a key
abbrev across_key : Key → Join → List End
across_key k j = cond (same_key (end_key j.required) k) (j.provided ∷ []) [] ++ cond (same_key (end_key j.provided) k) (j.required ∷ []) []

map_same : {X : Type 0} (f h : X → ℕ) → ((x : X) → f x ≡ h x) → (xs : List X) → map f xs ≡ map h xs
map_same f h same [] = refl
map_same f h same (x ∷ xs) = λ j. same x j ∷ map_same f h same xs j

-- what is done to numbers of sites
pub grouped : (g : ℕ → ℕ) (h : Site → ℕ) (sites : List Site) → map g (map h sites) ≡ map (λ s. g (h s)) sites
grouped g h [] = refl
grouped g h (s ∷ sites) = ap (λ ns. g (h s) ∷ ns) (grouped g h sites)

least_zero : (ms : List ℕ) → least 0 ms ≡ 0
least_zero [] = refl
least_zero (m ∷ ms) = ap (min m) (least_zero ms) ∙ by m
  where
    by : (m : ℕ) → min m 0 ≡ 0
    by m = omega arith

module _ (keys : List Key) (g : ℕ → ℕ) (k : Key) where
  abbrev of_end : End → ℕ
  of_end e = g (own_number keys e)

  module _ (m : ℕ) (number_is : number_in keys k ≡ suc m) where
    test_is : (a : Key) → nat_eq (number_in keys a) (suc m) ≡ same_key a k
    test_is a = by (same_key a k) refl (nat_eq (number_in keys a) (suc m)) refl
      where
        by : (x : Bool) → same_key a k ≡ x → (y : Bool) → nat_eq (number_in keys a) (suc m) ≡ y → y ≡ x
        by true same true e = refl
        by true same false e = absurd (true≢false (sym (eq-eqb (number_in keys a) (suc m) (ap (number_in keys) (same_key_is a k same) ∙ number_is)) ∙ e))
        by false same true e =
            let is_a = found_at (position_from (same_key a) 0 keys) m (eqb-true (number_in keys a) (suc m) e) in
            let is_k = found_at (position_from (same_key k) 0 keys) m number_is in
            absurd (true≢false (sym (same_key_refl k) ∙ ap (λ q. same_key q k) (sym (same_place a k 0 (suc m) keys is_a is_k)) ∙ same))
        by false same false e = refl

    side : (a b : End) → map g (cond (nat_eq (own_number keys a) (suc m)) (own_number keys b ∷ []) []) ≡ map of_end (cond (same_key (end_key a) k) (b ∷ []) [])
    side a b = ap (λ t. map g (cond t (own_number keys b ∷ []) [])) (test_is (end_key a)) ∙ by (same_key (end_key a) k)
      where
        by : (t : Bool) → map g (cond t (own_number keys b ∷ []) []) ≡ map of_end (cond t (b ∷ []) [])
        by true = refl
        by false = refl

    lists : (joins : List Join) → map g (flat_map (across_pair (suc m)) (pairs_of keys joins)) ≡ map of_end (flat_map (across_key k) joins)
    lists [] = refl
    lists (j ∷ joins) =
        map-append g (across_pair (suc m) (own_number keys j.provided, own_number keys j.required)) (flat_map (across_pair (suc m)) (pairs_of keys joins))
        ∙ (λ t. (map-append g (cond (nat_eq (own_number keys j.required) (suc m)) (own_number keys j.provided ∷ []) []) (cond (nat_eq (own_number keys j.provided) (suc m)) (own_number keys j.required ∷ []) [])
        ∙ (λ u. side j.required j.provided u ++ side j.provided j.required u)
        ∙ sym (map-append of_end (cond (same_key (end_key j.required) k) (j.provided ∷ []) []) (cond (same_key (end_key j.provided) k) (j.required ∷ []) []))) t ++ lists joins t)
        ∙ sym (map-append of_end (across_key k j) (flat_map (across_key k) joins))

  -- what spreads to a number spreads to the key that it numbers
  by_number : (joins : List Join) → g 0 ≡ 0 → spread_numbers (pairs_of keys joins) g (number_in keys k) ≡ least (g (number_in keys k)) (map of_end (flat_map (across_key k) joins))
  by_number joins none = by (number_in keys k) refl
    where
      nothing : (ms : List ℕ) → least (g 0) ms ≡ 0
      nothing ms = ap (λ z. least z ms) none ∙ least_zero ms

      by : (n : ℕ) → number_in keys k ≡ n → spread_numbers (pairs_of keys joins) g n ≡ least (g n) (map of_end (flat_map (across_key k) joins))
      by zero e = nothing (map g (flat_map (across_pair 0) (pairs_of keys joins))) ∙ sym (nothing (map of_end (flat_map (across_key k) joins)))
      by (suc m) e = ap (least (g (suc m))) (lists m e joins)

-- ---- the numbers of the elements themselves

own_at : (i count n : ℕ) → n < count → number_at (positions i count) n ≡ i + n
own_at i zero n within = absurd (omega arith)
own_at i (suc count) zero within = omega arith
own_at i (suc count) (suc n) within = own_at (i + 1) count n (omega arith) ∙ there
  where
    there : (i + 1) + n ≡ i + suc n
    there = omega arith

first_own : (count : ℕ) → number_at (positions 0 count) 0 ≡ 0
first_own zero = refl
first_own (suc count) = refl

from_zero : (n : ℕ) → 0 + n ≡ n
from_zero n = omega arith

own_is : (keys : List Key) (k : Key) → number_at (positions 0 (length keys)) (number_in keys k) ≡ number_in keys k
own_is keys k = by (number_in keys k) refl
  where
    by : (n : ℕ) → number_in keys k ≡ n → number_at (positions 0 (length keys)) n ≡ n
    by zero e = first_own (length keys)
    by (suc n) e = let found = position_least (same_key k) 0 (suc n) keys (found_at (position_from (same_key k) 0 keys) n e) in
        own_at 0 (length keys) (suc n) (omega (arith, found.1)) ∙ from_zero (suc n)

-- one more of them
pub own_more : (whole old new : List ℕ) (i n : ℕ) → i < n → new ≡ old ++ i ∷ [] → whole ≡ old ++ positions i (n - i) → whole ≡ new ++ positions (i + 1) (n - (i + 1))
own_more whole old new i n within pushed so_far = so_far ∙ ap (λ k. old ++ positions i k) one_less ∙ sym (append_assoc old (i ∷ []) rest) ∙ (λ j. sym pushed j ++ rest)
  where
    rest : List ℕ
    rest = positions (i + 1) (n - (i + 1))

    one_less : n - i ≡ suc (n - (i + 1))
    one_less = omega arith

pub own_none : (i n : ℕ) → n ≤ i → positions i (n - i) ≡ []
own_none i n past = ap (positions i) none
  where
    none : n - i ≡ 0
    none = omega arith

-- ---- a variable is at no join

no_partners : (owner : Option ℕ) (item : ℕ) (joins : List Join) → flat_map (across_key (owner, None, item)) joins ≡ []
no_partners owner item [] = refl
no_partners owner item (j ∷ joins) =
    (λ t. (cond (and_none (option_eq nat_eq j.required.instance owner) (nat_eq j.required.element item) t) (j.provided ∷ []) []
    ++ cond (and_none (option_eq nat_eq j.provided.instance owner) (nat_eq j.provided.element item) t) (j.required ∷ []) []) ++ no_partners owner item joins t)

-- ---- numbers that spread twice are the least of groups

module _ (keys : List Key) (joins : List Join) (near list : List ℕ)
    (near_is : (n : ℕ) → number_at near n ≡ spread_numbers (pairs_of keys joins) (number_at (positions 0 (length keys))) n)
    (list_is : (n : ℕ) → number_at list n ≡ spread_numbers (pairs_of keys joins) (number_at near) n) where
  abbrev own : ℕ → ℕ
  own = number_at (positions 0 (length keys))

  near_zero : number_at near 0 ≡ 0
  near_zero = near_is 0 ∙ ap (λ z. least z (map own (flat_map (across_pair 0) (pairs_of keys joins)))) (first_own (length keys)) ∙ least_zero (map own (flat_map (across_pair 0) (pairs_of keys joins)))

  near_at : (k : Key) → number_at near (number_in keys k) ≡ least (number_in keys k) (map (own_number keys) (flat_map (across_key k) joins))
  near_at k = near_is (number_in keys k) ∙ by_number keys own k joins (first_own (length keys))
      ∙ (λ j. least (own_is keys k j) (map_same (λ e. own (own_number keys e)) (own_number keys) (λ e. own_is keys (end_key e)) (flat_map (across_key k) joins) j))

  near_end : (e : End) → number_at near (own_number keys e) ≡ nearest joins keys e
  near_end e = near_at (end_key e)

  list_at : (k : Key) → number_at list (number_in keys k) ≡ least (number_at near (number_in keys k)) (map (nearest joins keys) (flat_map (across_key k) joins))
  list_at k = list_is (number_in keys k) ∙ by_number keys (number_at near) k joins near_zero
      ∙ ap (least (number_at near (number_in keys k))) (map_same (λ e. number_at near (own_number keys e)) (nearest joins keys) near_end (flat_map (across_key k) joins))

  leads : (owner port : Option ℕ) (item : ℕ) (kind : SiteKind) → number_at list (number_in keys (owner, port, item)) ≡ leader_of joins keys (record { owner = owner; port = port; item = item; kind = kind })
  leads owner None item kind =
      list_at (owner, None, item) ∙ ap (λ es. least (number_at near (number_in keys (owner, None, item))) (map (nearest joins keys) es)) (no_partners owner item joins)
      ∙ near_at (owner, None, item) ∙ ap (λ es. least (number_in keys (owner, None, item)) (map (own_number keys) es)) (no_partners owner item joins)
  leads owner (Some port) item kind =
      let e : End = record { instance = owner; port = port; element = item } in
      list_at (end_key e) ∙ ap (λ z. least z (map (nearest joins keys) (flat_map (across_key (end_key e)) joins))) (near_end e)

pub they_lead : (d : Description) (f : Flat) (own near list : List ℕ) (pairs : List (ℕ × ℕ)) (count : ℕ) → pairs ≡ pairs_of (keys_of (elements_of d f)) f.joins → count ≡ length (elements_of d f) → own ≡ positions 0 count
    → length near ≡ length own → ((n : ℕ) → number_at near n ≡ spread_numbers pairs (number_at own) n) → length list ≡ length near → ((n : ℕ) → number_at list n ≡ spread_numbers pairs (number_at near) n) → list ≡ leaders d f
they_lead d f own near list pairs count pairs_are counted own_are long_near near_is long list_is = same_number_lists list (leaders d f) as_many at
  where
    keys : List Key
    keys = keys_of (elements_of d f)

    all : length list ≡ length (elements_of d f)
    all = long ∙ long_near ∙ ap length own_are ∙ many_positions 0 count ∙ counted

    as_many : length list ≡ length (leaders d f)
    as_many = all ∙ sym (length-map (elements_of d f) (leader_of f.joins keys))

    is_leader : (s : Site) → number_at list (number_in keys (key_of s)) ≡ leader_of f.joins keys s
    is_leader s = leads keys f.joins near list
        (λ n. near_is n ∙ (λ j. spread_numbers (pairs_are j) (number_at ((own_are ∙ ap (positions 0) (counted ∙ sym (length-map (elements_of d f) key_of))) j)) n))
        (λ n. list_is n ∙ (λ j. spread_numbers (pairs_are j) (number_at near) n))
        s.owner s.port s.item s.kind

    at : (k : ℕ) → k < length list → get_or list k 0 ≡ get_or (leaders d f) k 0
    at k within =
        let inside : k < length (elements_of d f) = omega (arith, within, all) in
        let s = get_or (elements_of d f) k (site None None 0 Variable) in
        ap (λ o. number_at list (unwrap_or o 0)) (sym (own_place d f k (site None None 0 Variable) inside)) ∙ is_leader s
        ∙ sym (get_or-map (leader_of f.joins keys) (elements_of d f) k (site None None 0 Variable) 0 inside)
