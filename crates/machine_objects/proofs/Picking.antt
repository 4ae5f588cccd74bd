-- What is said of each of a plan's events is said of those that are listed, and first places.
use Rattle.std.proofs.Common.{◌≡◌, ◌<◌, ◌+◌, ℕ, zero, suc, Bool, true, false, not, ◌&&◌, ◌||◌, if◌then◌else◌, cond, refl, sym, ◌∙◌, ap, subst, arith, List, [], ◌∷◌, length, map, drop, Some, None}
use Rattle.std.specs.Prelude.{filter, position, is_none, nat_lt}
use Rattle.bus_semantics.specs.Common.{list_all, slice_get, position_or_len, false≢true, ltb-true, lt-ltb, filter-append, list_all-append, slice_get_within, Plan, every_from, positions}
use Rattle.bus_semantics.specs.declared.plan.EventPlan.{EventPlan}
use Rattle.object_kinds.proofs.Lists.{all_at, every_at, every_all}
use Rattle.object_kinds.proofs.Placing.{placed, place_at}

-- two tests of which each implies the other
pub by_both : (a b : Bool) → (a ≡ true → b ≡ true) → (b ≡ true → a ≡ true) → a ≡ b
by_both true true there back = refl
by_both false false there back = refl
by_both true false there back = sym (there refl)
by_both false true there back = back refl

-- an item stands at each place within a list
pub item_at : {X : Type 0} (xs : List X) (i : ℕ) → i < length xs → (x : X) × (slice_get xs i ≡ Some x)
item_at [] i within = absurd (omega arith)
item_at (x ∷ xs) zero within = (x, refl)
item_at (x ∷ xs) (suc i) within = item_at xs i (omega arith)

-- ---- all that are picked

pub all_picked : (t u : ℕ → Bool) (n : ℕ) → ((e : ℕ) → e < n → t e ≡ true → u e ≡ true) → list_all u (filter t (positions n)) ≡ true
all_picked t u zero each = refl
all_picked t u (suc n) each =
    let before : list_all u (filter t (positions n)) ≡ true = all_picked t u n (λ e less. each e (omega arith)) in
    ap (list_all u) (filter-append t (positions n) (n ∷ [])) ∙ list_all-append u (filter t (positions n)) (filter t (n ∷ [])) ∙ (λ i. before i && by_test (t n) refl i)
  where
    by_test : (b : Bool) → t n ≡ b → list_all u (if b then n ∷ [] else []) ≡ true
    by_test true passes = let last : u n ≡ true = each n (omega arith) passes in ap (λ b. b && true) last
    by_test false passes = refl

-- a test of each event that says nothing of those which are not picked
pub every_picked : (p : Plan) (f : ℕ → EventPlan → Bool) (t u : ℕ → Bool) → ((e : ℕ) (v : EventPlan) → slice_get p.events e ≡ Some v → f e v ≡ (not (t e) || u e))
    → every_from 0 f p.events ≡ list_all u (filter t (positions (length p.events)))
every_picked p f t u each = by_both (every_from 0 f p.events) (list_all u (filter t (positions (length p.events)))) there back
  where
    there : every_from 0 f p.events ≡ true → list_all u (filter t (positions (length p.events))) ≡ true
    there every = all_picked t u (length p.events) (λ e within passes.
        let at = item_at p.events e within in
        let holds : f e at.0 ≡ true = every_at f 0 p.events every e e at.0 (omega arith) at.1 in
        subst (λ b. (not b || u e) ≡ true) passes (sym (each e at.0 at.1) ∙ holds))

    back : list_all u (filter t (positions (length p.events))) ≡ true → every_from 0 f p.events ≡ true
    back all = every_all f 0 p.events (λ j k v at found. let same : j ≡ k = omega arith in listed k v (subst (λ z. slice_get p.events z ≡ Some v) same found))
      where
        by_test : (e : ℕ) → e < length p.events → (b : Bool) → t e ≡ b → (not b || u e) ≡ true
        by_test e within true passes = let there = placed t (length p.events) e within passes in
            all_at u (filter t (positions (length p.events))) there.at e all (place_at e (filter t (positions (length p.events))) there.at there.is)
        by_test e within false passes = refl

        listed : (e : ℕ) (v : EventPlan) → slice_get p.events e ≡ Some v → f e v ≡ true
        listed e v found = each e v found ∙ by_test e (slice_get_within p.events e v found) (t e) refl

-- ---- first places

none_where : {X : Type 0} (b : Bool) (x : X) → is_none (cond b (Some x) None) ≡ not b
none_where true x = refl
none_where false x = refl

less_more : (a b : ℕ) → nat_lt (1 + a) (suc b) ≡ nat_lt a b
less_more a b = by_both (nat_lt (1 + a) (suc b)) (nat_lt a b)
    (λ t. let less : 1 + a < suc b = ltb-true (1 + a) (suc b) t in lt-ltb a b (omega arith))
    (λ t. let less : a < b = ltb-true a b t in lt-ltb (1 + a) (suc b) (omega arith))

no_place : {X : Type 0} (f : X → Bool) (xs : List X) → not (nat_lt (position_or_len f xs) (length xs)) ≡ list_all (λ x. not (f x)) xs
no_place f [] = refl
no_place f (x ∷ xs) = by_test (f x) refl (no_place f xs)
  where
    by_test : (b : Bool) → f x ≡ b → not (nat_lt (position_or_len f xs) (length xs)) ≡ list_all (λ z. not (f z)) xs → not (nat_lt (position_or_len f (x ∷ xs)) (length (x ∷ xs))) ≡ list_all (λ z. not (f z)) (x ∷ xs)
    by_test true passes rest = rw passes (ap not (lt-ltb 0 (length (x ∷ xs)) (omega arith)))
    by_test false passes rest = rw passes (ap not (less_more (position_or_len f xs) (length xs)) ∙ rest)

-- there is no first place where none passes
pub none_first : {X : Type 0} (f : X → Bool) (xs : List X) → is_none (position f xs) ≡ list_all (λ x. not (f x)) xs
none_first f xs = none_where (nat_lt (position_or_len f xs) (length xs)) (position_or_len f xs) ∙ no_place f xs

-- what stands first of what is left
pub left_at : {X : Type 0} (t : ℕ) (xs : List X) → slice_get (drop t xs) 0 ≡ slice_get xs t
left_at zero xs = refl
left_at (suc t) [] = refl
left_at (suc t) (x ∷ xs) = left_at t xs

pub one_less : {X : Type 0} (t : ℕ) (xs : List X) → drop (suc t) xs ≡ drop 1 (drop t xs)
one_less zero xs = refl
one_less (suc t) [] = refl
one_less (suc t) (x ∷ xs) = one_less t xs

-- ---- maps

-- a map of what was mapped
pub mapped_through : {X Y : Type 0} (f h : X → Y) (g : Y → Y) (xs : List X) → ((x : X) → h x ≡ g (f x)) → map h xs ≡ map g (map f xs)
mapped_through f h g [] each = refl
mapped_through f h g (x ∷ xs) each = λ i. each x i ∷ mapped_through f h g xs each i

-- picking twice by tests of which the second implies the first
pub picked_again : {X : Type 0} (t u : X → Bool) (xs : List X) → ((x : X) → u x ≡ true → t x ≡ true) → filter u (filter t xs) ≡ filter u xs
picked_again t u [] implies = refl
picked_again t u (x ∷ xs) implies = by_tests (t x) (u x) refl refl (picked_again t u xs implies)
  where
    by_tests : (a b : Bool) → t x ≡ a → u x ≡ b → filter u (filter t xs) ≡ filter u xs → filter u (filter t (x ∷ xs)) ≡ filter u (x ∷ xs)
    by_tests true true first second rest = rw (first, second) (ap (λ zs. x ∷ zs) rest)
    by_tests true false first second rest = rw (first, second) rest
    by_tests false true first second rest = absurd (false≢true (sym first ∙ implies x second))
    by_tests false false first second rest = rw (first, second) rest
