-- Elements that no join names: each leads a group of its own. Each join names two at most.
use Rattle.std.proofs.Common.{◌≡◌, ℕ, zero, suc, ◌+◌, ◌≤◌, List, [], ◌∷◌, ◌++◌, length, map, filter, Bool, true, false, cond, not, ◌||◌, nat_eq, Option, Some, None, unwrap_or, inl, inr}
use Rattle.std.proofs.Common.{refl, sym, ap, subst, ◌∙◌, true≢false, arith, slice_get}
use Rattle.bus_semantics.specs.Common.{eq-eqb, or_parts, position_from, option_map_or}
use Rattle.std.proofs.lemmas.List.Filters.{length-filter_both}
use Rattle.plan_definitions.specs.Common.{End, Join, Among, end_at, end_of, is_joined, partners, same_end, Key, end_key, key_of, keys_of, number_in, same_key, from, site, groups}
use Rattle.plan_definitions.specs.Common.{group_number, head_at, heads, leader, leader_of, least, members, nearest, own_number}
use Rattle.plan_definitions.specs.declared.site.Site.{Site}
use Rattle.plan_definitions.proofs.Apart.{Apart}
use Rattle.plan_definitions.proofs.Keys.{key_is, same_end_is, same_key_is, same_key_refl}
use Rattle.plan_definitions.proofs.Lists.{as_many, at}
use Rattle.plan_definitions.proofs.Sites.{with_port}

-- ---- the number of an element is its position

positioned : (i : ℕ) (xs : List Site) → Apart key_of xs → (n : ℕ) (s : Site) → slice_get xs n ≡ Some s → position_from (same_key (key_of s)) i (keys_of xs) ≡ Some (i + n)
positioned i [] apart n s is = cc
positioned i (x ∷ xs) apart zero s is =
    let e : x ≡ s = cc in by (same_key (key_of s) (key_of x)) (subst (λ y. same_key (key_of s) (key_of y) ≡ true) (sym e) (same_key_refl (key_of s)))
  where
    by : (b : Bool) → b ≡ true → cond b (Some i) (position_from (same_key (key_of s)) (i + 1) (keys_of xs)) ≡ Some (i + 0)
    by true same = ap (λ m. Some m) (omega arith)
    by false same = cc
positioned i (x ∷ xs) apart (suc n) s is = by (same_key (key_of s) (key_of x)) refl (positioned (i + 1) xs apart.1 n s is)
  where
    by : (b : Bool) → same_key (key_of s) (key_of x) ≡ b → position_from (same_key (key_of s)) (i + 1) (keys_of xs) ≡ Some (i + 1 + n)
        → cond b (Some i) (position_from (same_key (key_of s)) (i + 1) (keys_of xs)) ≡ Some (i + suc n)
    by true same rest = absurd (apart.0 s (at xs n s is) (sym (same_key_is (key_of s) (key_of x) same)))
    by false other rest = rest ∙ ap (λ m. Some m) (omega arith)

number_here : (xs : List Site) → Apart key_of xs → (n : ℕ) (s : Site) → slice_get xs n ≡ Some s → number_in (keys_of xs) (key_of s) ≡ n
number_here xs apart n s is = let z : 0 + n ≡ n = omega arith in ap (λ o. unwrap_or o 0) (positioned 0 xs apart n s is) ∙ z

-- ---- the leader of an element that no join names

abbrev pub named : List Join → Site → Bool
named joins s = option_map_or (is_joined joins) (end_of s) false

no_partner : (joins : List Join) (e : End) → is_joined joins e ≡ false → partners joins e ≡ []
no_partner [] e apart = refl
no_partner (j ∷ joins) e apart =
    let parts = or_parts (same_end j.provided e || same_end j.required e) (is_joined joins e) apart in
    let sides = or_parts (same_end j.provided e) (same_end j.required e) parts.0 in
    (λ t. (cond (sides.1 t) (j.provided ∷ []) [] ++ cond (sides.0 t) (j.required ∷ []) []) ++ no_partner joins e parts.1 t)

leads_alone : (joins : List Join) (keys : List Key) (e : End) → partners joins e ≡ [] → leader joins keys e ≡ own_number keys e
leads_alone joins keys e none = ap (λ ends. least (nearest joins keys e) (map (nearest joins keys) ends)) none
    ∙ ap (λ ends. least (own_number keys e) (map (own_number keys) ends)) none

leads_itself : (joins : List Join) (keys : List Key) (s : Site) → named joins s ≡ false → leader_of joins keys s ≡ number_in keys (key_of s)
leads_itself joins keys s apart = by s.port refl
  where
    by : (o : Option ℕ) → s.port ≡ o → leader_of joins keys s ≡ number_in keys (key_of s)
    by None is = with_port (λ x. leader_of joins keys x ≡ number_in keys (key_of x)) s None is refl
    by (Some k) is = with_port (λ x. leader_of joins keys x ≡ number_in keys (key_of x)) s (Some k) is
        (leads_alone joins keys (end_at s.owner k s.item) (no_partner joins (end_at s.owner k s.item) (subst (λ q. named joins (site s.owner q s.item s.kind) ≡ false) is apart)))

-- ---- how many lead

module _ (lead : Site → ℕ) (test : Site → Bool) where
  heads_most : (i : ℕ) (xs : List Site) → ((n : ℕ) (s : Site) → slice_get xs n ≡ Some s → test s ≡ false → lead s ≡ i + n)
      → length (filter (λ s. not (test s)) xs) ≤ length (from i head_at (map lead xs))
  heads_most i [] each = omega arith
  heads_most i (x ∷ xs) each = by (test x) refl (nat_eq (lead x) i) refl (heads_most (i + 1) xs (λ n s is fails. let z : i + suc n ≡ i + 1 + n = omega arith in each (suc n) s is fails ∙ z))
    where
      others : List Site
      others = filter (λ s. not (test s)) xs

      later : List ℕ
      later = from (i + 1) head_at (map lead xs)

      by : (b : Bool) → test x ≡ b → (c : Bool) → nat_eq (lead x) i ≡ c → length others ≤ length later → length (cond (not b) (x ∷ others) others) ≤ length (cond c (i ∷ []) [] ++ later)
      by true passes true is rest = omega (arith, rest)
      by true passes false is rest = rest
      by false fails true is rest = omega (arith, rest)
      by false fails false is rest = let z : i + 0 ≡ i = omega arith in absurd (true≢false (sym (eq-eqb (lead x) i (each 0 x refl fails ∙ z)) ∙ is))

-- ---- how many the joins name

none_passes : (test : Site → Bool) (xs : List Site) → ((x : Site) → Among x xs → test x ≡ true → ⊥) → length (filter test xs) ≡ 0
none_passes test [] never = refl
none_passes test (x ∷ xs) never = by (test x) refl (none_passes test xs (λ y h. never y (inr h)))
  where
    by : (b : Bool) → test x ≡ b → length (filter test xs) ≡ 0 → length (cond b (x ∷ filter test xs) (filter test xs)) ≡ 0
    by true passes rest = absurd (never x (inl refl) passes)
    by false fails rest = rest

one_passes : (test : Site → Bool) (xs : List Site) → Apart key_of xs → ((x y : Site) → test x ≡ true → test y ≡ true → key_of x ≡ key_of y) → length (filter test xs) ≤ 1
one_passes test [] apart same = omega arith
one_passes test (x ∷ xs) apart same = by (test x) refl (one_passes test xs apart.1 same)
  where
    by : (b : Bool) → test x ≡ b → length (filter test xs) ≤ 1 → length (cond b (x ∷ filter test xs) (filter test xs)) ≤ 1
    by true passes rest = let none = none_passes test xs (λ y h also. apart.0 y h (same x y passes also)) in omega (arith, none)
    by false fails rest = rest

abbrev has : End → Site → Bool
has e s = option_map_or (same_end e) (end_of s) false

has_key : (e : End) (s : Site) → has e s ≡ true → end_key e ≡ key_of s
has_key e s h = by (end_of s) refl h
  where
    by : (o : Option End) → end_of s ≡ o → option_map_or (same_end e) o false ≡ true → end_key e ≡ key_of s
    by None none h = cc
    by (Some x) some h = ap end_key (same_end_is e x h) ∙ key_is s x some

-- what passes one of three tests
passes_one : (test a b c : Site → Bool) → ((s : Site) → test s ≡ ((a s || b s) || c s)) → (xs : List Site) → length (filter test xs) ≤ length (filter a xs) + (length (filter b xs) + length (filter c xs))
passes_one test a b c is [] = omega arith
passes_one test a b c is (x ∷ xs) = subst (λ t. length (cond t (x ∷ filter test xs) (filter test xs)) ≤ length (filter a (x ∷ xs)) + (length (filter b (x ∷ xs)) + length (filter c (x ∷ xs)))) (sym (is x))
    (by (a x) (b x) (c x) (passes_one test a b c is xs))
  where
    by : (p q r : Bool) → length (filter test xs) ≤ length (filter a xs) + (length (filter b xs) + length (filter c xs))
        → length (cond ((p || q) || r) (x ∷ filter test xs) (filter test xs))
        ≤ length (cond p (x ∷ filter a xs) (filter a xs)) + (length (cond q (x ∷ filter b xs) (filter b xs)) + length (cond r (x ∷ filter c xs) (filter c xs)))
    by true true true rest = omega (arith, rest)
    by true true false rest = omega (arith, rest)
    by true false true rest = omega (arith, rest)
    by true false false rest = omega (arith, rest)
    by false true true rest = omega (arith, rest)
    by false true false rest = omega (arith, rest)
    by false false true rest = omega (arith, rest)
    by false false false rest = rest

pub named_few : (joins : List Join) (xs : List Site) → Apart key_of xs → length (filter (named joins) xs) ≤ length joins + length joins
named_few [] xs apart = let none = none_passes (named []) xs (λ x h passes. never x passes) in omega (arith, none)
  where
    never : (s : Site) → named [] s ≡ true → ⊥
    never s h = by (end_of s) h
      where
        by : (o : Option End) → option_map_or (is_joined []) o false ≡ true → ⊥
        by None g = true≢false (sym g)
        by (Some e) g = true≢false (sym g)
named_few (j ∷ joins) xs apart =
    let few = passes_one (named (j ∷ joins)) (has j.provided) (has j.required) (named joins) split xs in
    let one = one_passes (has j.provided) xs apart (λ x y h g. sym (has_key j.provided x h) ∙ has_key j.provided y g) in
    let other = one_passes (has j.required) xs apart (λ x y h g. sym (has_key j.required x h) ∙ has_key j.required y g) in
    let rest = named_few joins xs apart in
    omega (arith, few, one, other, rest)
  where
    split : (s : Site) → named (j ∷ joins) s ≡ ((has j.provided s || has j.required s) || named joins s)
    split s = by (end_of s)
      where
        by : (o : Option End) → option_map_or (is_joined (j ∷ joins)) o false ≡ ((option_map_or (same_end j.provided) o false || option_map_or (same_end j.required) o false) || option_map_or (is_joined joins) o false)
        by None = refl
        by (Some e) = refl

-- ---- how many groups there are

pub groups_most : (joins : List Join) (xs : List Site) → Apart key_of xs → length xs ≤ length (groups (map (leader_of joins (keys_of xs)) xs)) + (length joins + length joins)
groups_most joins xs apart =
    let both = length-filter_both (named joins) (λ s. not (named joins s)) (λ s. refl) xs in
    let few = named_few joins xs apart in
    let most = heads_most (leader_of joins (keys_of xs)) (named joins) 0 xs each in
    let count : length (groups ls) ≡ length (heads ls) = as_many (members (map (group_number ls) ls)) 0 (length (heads ls)) in
    omega (arith, both, few, most, count)
  where
    ls : List ℕ
    ls = map (leader_of joins (keys_of xs)) xs

    each : (n : ℕ) (s : Site) → slice_get xs n ≡ Some s → named joins s ≡ false → leader_of joins (keys_of xs) s ≡ 0 + n
    each n s is fails = let z : n ≡ 0 + n = omega arith in leads_itself joins (keys_of xs) s fails ∙ number_here xs apart n s is ∙ z
