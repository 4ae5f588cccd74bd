-- Bundles of a sound plan: each begins with a group whose home it is, the least of those that lists connect.
use Rattle.std.proofs.Common.{◌≡◌, ◌<◌, ◌≤◌, ℕ, zero, suc, Bool, true, false, ◌&&◌, ◌==◌, if◌then◌else◌, refl, sym, ◌∙◌, ap, subst, arith, List, [], ◌∷◌, ◌++◌, map, length, length-append}
use Rattle.std.proofs.Common.{Option, Some, None}
use mathlib.Core.Logic.{dite}
use native.Mathlib.Decide.{ℕ_discrete}
use Rattle.std.specs.Prelude.{filter, flat_map, option_and_then, nat_lt}
use Rattle.bus_semantics.specs.Common.{list_all, slice_get, option_map_or, and_parts, false≢true, ltb-true, eqb-true, eq-eqb, ne_eqb, none-some, same_Some, filter-append, same_number, Plan}
use Rattle.bus_semantics.specs.Common.{every_from, positions, group_of, home_of, bundle_of, groups_at, leaders_by, is_rising, same_numbers, first_of, firsts, groups_fit, groups_listed}
use Rattle.bus_semantics.specs.Common.{first_group, bundles_fit}
use Rattle.bus_semantics.specs.declared.plan.ElemPlan.{ElemPlan}
use Rattle.bus_laws.proofs.Thinning.{option_same, every_at}
pub use Rattle.bus_laws.proofs.Thinning.{there_is as some_of}

-- ---- positions

last_position : (n : ℕ) (ys : List ℕ) (k : ℕ) → length ys ≡ k → slice_get (ys ++ n ∷ []) k ≡ Some n
last_position n [] zero e = refl
last_position n [] (suc k) e = absurd (omega (arith, e))
last_position n (y ∷ ys) zero e = absurd (omega (arith, e))
last_position n (y ∷ ys) (suc k) e = last_position n ys k (omega (arith, e))

earlier_position : (n : ℕ) (ys : List ℕ) (i x : ℕ) → slice_get ys i ≡ Some x → slice_get (ys ++ n ∷ []) i ≡ Some x
earlier_position n [] i x e = absurd (cc e)
earlier_position n (y ∷ ys) zero x e = e
earlier_position n (y ∷ ys) (suc i) x e = earlier_position n ys i x e

pub positions_counted : (n : ℕ) → length (positions n) ≡ n
positions_counted zero = refl
positions_counted (suc n) = omega (arith, length-append (positions n) (n ∷ []), positions_counted n)

pub position_at : (n i : ℕ) → i < n → slice_get (positions n) i ≡ Some i
position_at zero i less = absurd (omega arith)
position_at (suc n) i less = dite (ℕ_discrete i n)
    (λ e. subst (λ (k : ℕ). slice_get (positions n ++ n ∷ []) k ≡ Some k) (sym e) (last_position n (positions n) n (positions_counted n)))
    (λ other. earlier_position n (positions n) i i (position_at n i (omega arith)))

pub same_lists : (ms ns : List ℕ) → same_numbers ms ns ≡ true → ms ≡ ns
same_lists [] [] e = refl
same_lists [] (n ∷ ns) e = absurd (false≢true e)
same_lists (m ∷ ms) [] e = absurd (false≢true e)
same_lists (m ∷ ms) (n ∷ ns) e =
    let parts = and_parts (m == n) (same_numbers ms ns) e in
    let head : m ≡ n = eqb-true m n parts.0 in
    let tail : ms ≡ ns = same_lists ms ns parts.1 in
    λ i. head i ∷ tail i

-- ---- what passes a filter

filter_first : (test : ℕ → Bool) (xs : List ℕ) (y : ℕ) (ys : List ℕ) → filter test xs ≡ y ∷ ys → test y ≡ true
filter_first test [] y ys e = absurd (cc e)
filter_first test (x ∷ xs) y ys e = by_test (test x) refl (λ rest. filter_first test xs y ys rest)
  where
    by_test : (b : Bool) → test x ≡ b → (filter test xs ≡ y ∷ ys → test y ≡ true) → test y ≡ true
    by_test true t more =
        let kept : x ∷ filter test xs ≡ y ∷ ys = subst (λ b. (if b then x ∷ filter test xs else filter test xs) ≡ y ∷ ys) t e in
        let same : x ≡ y = cc kept in
        subst (λ z. test z ≡ true) same t
    by_test false t more = more (subst (λ b. (if b then x ∷ filter test xs else filter test xs) ≡ y ∷ ys) t e)

-- of positions that pass only where they are one number
module _ (test : ℕ → Bool) (g : ℕ) where
  none_passes : (n : ℕ) → ((x : ℕ) → x < n → test x ≡ (x == g)) → n ≤ g → filter test (positions n) ≡ []
  none_passes zero only past = refl
  none_passes (suc n) only past =
      let last : test n ≡ false = only n (omega arith) ∙ ne_eqb n g (λ e. omega (arith, e)) in
      filter-append test (positions n) (n ∷ [])
      ∙ ap (λ b. filter test (positions n) ++ (if b then n ∷ [] else [])) last
      ∙ ap (λ (ys : List ℕ). ys ++ []) (none_passes n (λ x less. only x (omega arith)) (omega arith))

  pub one_passes : (n : ℕ) → ((x : ℕ) → x < n → test x ≡ (x == g)) → g < n → filter test (positions n) ≡ g ∷ []
  one_passes zero only below = absurd (omega arith)
  one_passes (suc n) only below = filter-append test (positions n) (n ∷ []) ∙ dite (ℕ_discrete n g)
      (λ (e : n ≡ g).
      ap (λ b. filter test (positions n) ++ (if b then n ∷ [] else [])) (only n (omega arith) ∙ eq-eqb n g e)
      ∙ ap (λ (ys : List ℕ). ys ++ n ∷ []) (none_passes n (λ x less. only x (omega arith)) (omega (arith, e)))
      ∙ ap (λ k. k ∷ []) e)
      (λ other.
      ap (λ b. filter test (positions n) ++ (if b then n ∷ [] else [])) (only n (omega arith) ∙ ne_eqb n g other)
      ∙ ap (λ (ys : List ℕ). ys ++ []) (one_passes n (λ x less. only x (omega arith)) (omega arith)))

-- ---- bundles

-- the first group of a bundle
pub record Begins (p : Plan) (b y : ℕ) : Type 0 where
  pub others : List ℕ
  pub is : slice_get p.bundles b ≡ Some (y ∷ others)

-- a list that has one number for each item of another
single_at : (f : ℕ → List ℕ) (bs : List ℕ) → ((b : ℕ) (i : ℕ) → slice_get bs i ≡ Some b → (y : ℕ) × (f b ≡ y ∷ []))
    → (i b y : ℕ) → slice_get bs i ≡ Some b → slice_get (flat_map f bs) i ≡ Some y → f b ≡ y ∷ []
single_at f [] single i b y at there = absurd (cc at)
single_at f (c ∷ bs) single i b y at there = by_place i at there (λ j. single_at f bs (λ k n found. single k (suc n) found) j b y)
  where
    head : (z : ℕ) × (f c ≡ z ∷ [])
    head = single c 0 refl

    whole : flat_map f (c ∷ bs) ≡ head.0 ∷ flat_map f bs
    whole = ap (λ (ys : List ℕ). ys ++ flat_map f bs) head.1

    by_place : (i : ℕ) → slice_get (c ∷ bs) i ≡ Some b → slice_get (flat_map f (c ∷ bs)) i ≡ Some y
        → ((j : ℕ) → slice_get bs j ≡ Some b → slice_get (flat_map f bs) j ≡ Some y → f b ≡ y ∷ []) → f b ≡ y ∷ []
    by_place zero at there rest =
        let same : c ≡ b = same_Some c b at in
        let first : head.0 ≡ y = same_Some head.0 y (sym (ap (λ (ys : List ℕ). slice_get ys 0) whole) ∙ there) in
        subst (λ k. f k ≡ y ∷ []) same (head.1 ∙ ap (λ k. k ∷ []) first)
    by_place (suc i) at there rest = rest i at (sym (ap (λ (ys : List ℕ). slice_get ys (suc i)) whole) ∙ there)

pub all_at : (test : ℕ → Bool) (xs : List ℕ) → list_all test xs ≡ true → (i x : ℕ) → slice_get xs i ≡ Some x → test x ≡ true
all_at test [] all i x at = absurd (cc at)
all_at test (y ∷ xs) all zero x at = let same : y ≡ x = same_Some y x at in subst (λ k. test k ≡ true) same (and_parts (test y) (list_all test xs) all).0
all_at test (y ∷ xs) all (suc i) x at = all_at test xs (and_parts (test y) (list_all test xs) all).1 i x at

-- the least group that lists connect with each group
abbrev pub leaders : Plan → List ℕ
leaders p = leaders_by (length p.groups) (map (groups_listed p) p.lists)

module _ (p : Plan) (fit : bundles_fit p ≡ true) where
  abbrev counted : Bool
  counted = length p.homes == length p.groups

  abbrev within : Bool
  within = list_all (λ b. nat_lt b (length p.bundles)) p.homes

  abbrev lists_groups : ℕ → List ℕ → Bool
  lists_groups b gs = same_numbers gs (groups_at p b) && nat_lt 0 (length gs)

  abbrev listed : Bool
  listed = every_from 0 lists_groups p.bundles

  abbrev rises : Bool
  rises = is_rising (firsts p.bundles)

  abbrev led : Bool
  led = same_numbers (flat_map (first_group p) p.homes) (leaders p)

  after_counted : (within && (listed && (rises && led))) ≡ true
  after_counted = (and_parts counted (within && (listed && (rises && led))) fit).1

  after_listed : (rises && led) ≡ true
  after_listed = (and_parts listed (rises && led) (and_parts within (listed && (rises && led)) after_counted).1).1

  pub homes_counted : length p.homes ≡ length p.groups
  homes_counted = eqb-true (length p.homes) (length p.groups) (and_parts counted (within && (listed && (rises && led))) fit).0

  homes_within : within ≡ true
  homes_within = (and_parts within (listed && (rises && led)) after_counted).0

  pub bundle_lists : (b : ℕ) (gs : List ℕ) → slice_get p.bundles b ≡ Some gs → lists_groups b gs ≡ true
  bundle_lists b gs at = every_at lists_groups 0 p.bundles (and_parts listed (rises && led) (and_parts within (listed && (rises && led)) after_counted).1).0 b b gs (omega arith) at

  first_groups : flat_map (first_group p) p.homes ≡ leaders p
  first_groups = same_lists (flat_map (first_group p) p.homes) (leaders p) (and_parts rises led after_listed).1

  -- a bundle begins with a group whose home it is
  pub begins : (b : ℕ) → b < length p.bundles → (y : ℕ) × Begins p b y
  begins b below = let some = some_of p.bundles b below in by_groups some.0 some.1 (and_parts (same_numbers some.0 (groups_at p b)) (nat_lt 0 (length some.0)) (bundle_lists b some.0 some.1)).1
    where
      by_groups : (gs : List ℕ) → slice_get p.bundles b ≡ Some gs → nat_lt 0 (length gs) ≡ true → (y : ℕ) × Begins p b y
      by_groups [] at long = absurd (false≢true long)
      by_groups (y ∷ ys) at long = (y, record { others = ys; is = at })

  first_is : (b y : ℕ) → Begins p b y → first_group p b ≡ y ∷ []
  first_is b y first = ap (λ (o : Option (List ℕ)). option_map_or first_of o []) first.is

  pub home_there : (g b : ℕ) → slice_get p.homes g ≡ Some b → home_of p g ≡ Some b
  home_there g b at = ap (λ (o : Option ℕ). option_map_or (λ (n : ℕ). Some n) o None) at

  pub there_home : (g b : ℕ) → home_of p g ≡ Some b → slice_get p.homes g ≡ Some b
  there_home g b is = by_home (slice_get p.homes g) refl is
    where
      by_home : (o : Option ℕ) → slice_get p.homes g ≡ o → option_map_or (λ (n : ℕ). Some n) o None ≡ Some b → slice_get p.homes g ≡ Some b
      by_home None at e = absurd (cc e)
      by_home (Some n) at e = at ∙ e

  pub begun_home : (b y : ℕ) → Begins p b y → slice_get p.homes y ≡ Some b
  begun_home b y first =
      let lists : same_numbers (y ∷ first.others) (groups_at p b) ≡ true = (and_parts (same_numbers (y ∷ first.others) (groups_at p b)) (nat_lt 0 (length (y ∷ first.others))) (bundle_lists b (y ∷ first.others) first.is)).0 in
      let passes : same_number (home_of p y) (Some b) ≡ true =
      filter_first (λ g. same_number (home_of p g) (Some b)) (positions (length p.homes)) y first.others (sym (same_lists (y ∷ first.others) (groups_at p b) lists)) in
      there_home y b (option_same (home_of p y) (Some b) passes)

  -- the bundle of a group begins with the least group that lists connect with it
  pub home_leads : (g b y : ℕ) → slice_get p.homes g ≡ Some b → slice_get (leaders p) g ≡ Some y → Begins p b y
  home_leads g b y at leads =
      let below : b < length p.bundles = ltb-true b (length p.bundles) (all_at (λ c. nat_lt c (length p.bundles)) p.homes homes_within g b at) in
      let first = begins b below in
      let is : first_group p b ≡ y ∷ [] = single_at (first_group p) p.homes single g b y at (ap (λ (ys : List ℕ). slice_get ys g) first_groups ∙ leads) in
      let same : first.0 ≡ y = cc (first_is b first.0 first.1, is) in
      subst (Begins p b) same first.1
    where
      single : (c i : ℕ) → slice_get p.homes i ≡ Some c → (z : ℕ) × (first_group p c ≡ z ∷ [])
      single c i found =
          let first = begins c (ltb-true c (length p.bundles) (all_at (λ c. nat_lt c (length p.bundles)) p.homes homes_within i c found)) in (first.0, first_is c first.0 first.1)

-- ---- the bundle of an element

pub group_below : (p : Plan) → groups_fit p ≡ true → (x g : ℕ) → group_of p x ≡ Some g → g < length p.groups
group_below p fit x g is = by_element (slice_get p.elements x) refl is
  where
    elem_at : (es : List ElemPlan) → list_all (λ (e : ElemPlan). nat_lt e.group (length p.groups)) es ≡ true → (i : ℕ) (e : ElemPlan) → slice_get es i ≡ Some e → nat_lt e.group (length p.groups) ≡ true
    elem_at [] all i e at = absurd (cc at)
    elem_at (d ∷ es) all zero e at =
        let same : d ≡ e = same_Some d e at in
        subst (λ (v : ElemPlan). nat_lt v.group (length p.groups) ≡ true) same (and_parts (nat_lt d.group (length p.groups)) (list_all (λ (v : ElemPlan). nat_lt v.group (length p.groups)) es) all).0
    elem_at (d ∷ es) all (suc i) e at = elem_at es (and_parts (nat_lt d.group (length p.groups)) (list_all (λ (v : ElemPlan). nat_lt v.group (length p.groups)) es) all).1 i e at

    by_element : (o : Option ElemPlan) → slice_get p.elements x ≡ o → option_map_or (λ (e : ElemPlan). Some e.group) o None ≡ Some g → g < length p.groups
    by_element None at e = absurd (cc e)
    by_element (Some v) at e = ltb-true g (length p.groups) (subst (λ k. nat_lt k (length p.groups) ≡ true) (same_Some v.group g e)
        (elem_at p.elements (and_parts (list_all (λ (w : ElemPlan). nat_lt w.group (length p.groups)) p.elements) _ fit).0 x v at))

-- an element without a bundle is none of the plan's
pub no_bundle : (p : Plan) → bundles_fit p ≡ true → groups_fit p ≡ true → (x : ℕ) → bundle_of p x ≡ None → group_of p x ≡ None
no_bundle p fit groups x is = by_group (group_of p x) refl is
  where
    by_group : (o : Option ℕ) → group_of p x ≡ o → option_and_then (home_of p) o ≡ None → o ≡ None
    by_group None at none = refl
    by_group (Some g) at none =
        let home = some_of p.homes g (omega (arith, group_below p groups x g at, homes_counted p fit)) in
        absurd (none-some home.0 (sym none ∙ home_there p fit g home.0 home.1))
