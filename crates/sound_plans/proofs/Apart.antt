-- Lists in which nothing stands twice.
use Rattle.std.proofs.Common.{◌≡◌, ℕ, zero, suc, ◌+◌, List, [], ◌∷◌, ◌++◌, map, filter, slice_get, Bool, true, false, cond, not, nat_eq, Some, inl, inr, ⊎_elim, refl, sym, ap, subst, ◌∙◌}
use Rattle.std.proofs.Common.{arith, true≢false}
use Rattle.bus_semantics.specs.Common.{and_parts, and_from, eqb-true, false_from_ne_true, not-true, list_any, Named, same_named, named_once, same_numbers}
use Rattle.plan_definitions.proofs.Lists.{same_numbers_is, same_numbers_refl, cases, at as get_among}
use Rattle.sound_plans.proofs.Lists.{filtered, mapped, map_has, none_from, any_has, piece}
use Rattle.plan_definitions.specs.Common.{Among, AllApart, from, distinct}

module _ {X : Type 0} where
  pub apart_append : (xs ys : List X) → AllApart xs → AllApart ys → ((x : X) → Among x xs → Among x ys → ⊥) → AllApart (xs ++ ys)
  apart_append [] ys first later none = later
  apart_append (x ∷ xs) ys first later none = (
    (λ h. ⊎_elim (λ l. first.0 l) (λ r. none x (inl refl) r) (cases x xs ys h)),
    apart_append xs ys first.1 later (λ y l r. none y (inr l) r),
  )

  kept : (b : Bool) (test : X → Bool) (x : X) (xs : List X) → (Among x xs → ⊥) → AllApart (filter test xs) → AllApart (cond b (x ∷ filter test xs) (filter test xs))
  kept true test x xs other rest = ((λ h. other (filtered test x xs h).0), rest)
  kept false test x xs other rest = rest

  pub apart_filter : (test : X → Bool) (xs : List X) → AllApart xs → AllApart (filter test xs)
  apart_filter test [] h = tt
  apart_filter test (x ∷ xs) h = kept (test x) test x xs h.0 (apart_filter test xs h.1)

-- images of what is told apart
module _ {X Y : Type 0} (f : X → Y) where
  pub apart_map : (xs : List X) → ((x y : X) → Among x xs → Among y xs → f x ≡ f y → x ≡ y) → AllApart xs → AllApart (map f xs)
  apart_map [] same apart = tt
  apart_map (x ∷ xs) same apart = (
    (λ h. let r = mapped f (f x) xs h in apart.0 (subst (λ w. Among w xs) (sym (same x r.0 (inl refl) (inr r.1) r.2)) r.1)),
    apart_map xs (λ a b in_a in_b. same a b (inr in_a) (inr in_b)) apart.1,
  )

-- what is told apart by less is told apart by more
pub apart_finer : {X Y Z : Type 0} (g : X → Z) (f : X → Y) (xs : List X) → ((x y : X) → f x ≡ f y → g x ≡ g y) → AllApart (map g xs) → AllApart (map f xs)
apart_finer g f [] finer apart = tt
apart_finer g f (x ∷ xs) finer apart = (
  (λ h. let r = mapped f (f x) xs h in apart.0 (subst (λ w. Among w (map g xs)) (sym (finer x r.0 r.2)) (map_has g r.0 xs r.1))),
  apart_finer g f xs finer apart.1,
)

-- pieces of which each has a number
module _ {X Y : Type 0} (number : Y → ℕ) (f : ℕ → X → List Y) where
  pub apart_pieces : (n : ℕ) (xs : List X) → ((k : ℕ) (x : X) (y : Y) → slice_get xs k ≡ Some x → Among y (f (n + k) x) → number y ≡ n + k) → ((k : ℕ) (x : X) → slice_get xs k ≡ Some x → AllApart (f (n + k) x)) → AllApart (from n f xs)
  apart_pieces n [] tells each = tt
  apart_pieces n (x ∷ xs) tells each =
      let start : n + 0 ≡ n = omega arith in
      apart_append (f n x) (from (n + 1) f xs)
      (subst (λ m. AllApart (f m x)) start (each 0 x refl))
      (apart_pieces (n + 1) xs
      (λ k z y at h. let e : n + suc k ≡ n + 1 + k = omega arith in subst (λ m. Among y (f m z) → number y ≡ m) e (tells (suc k) z y at) h)
      (λ k z at. let e : n + suc k ≡ n + 1 + k = omega arith in subst (λ m. AllApart (f m z)) e (each (suc k) z at)))
      (λ y here later.
      let p = piece f (n + 1) xs y later in
      let a : number y ≡ n = subst (λ m. Among y (f m x) → number y ≡ m) start (tells 0 x y refl) here in
      let e : n + suc p.place ≡ n + 1 + p.place = omega arith in
      let b : number y ≡ n + 1 + p.place = subst (λ m. Among y (f m p.item) → number y ≡ m) e (tells (suc p.place) p.item y p.at) p.among in
      omega (arith, a, b))

  pub all_apart : (xs : List X) → ((k : ℕ) (x : X) (y : Y) → slice_get xs k ≡ Some x → Among y (f k x) → number y ≡ k) → ((k : ℕ) (x : X) → slice_get xs k ≡ Some x → AllApart (f k x)) → AllApart (from 0 f xs)
  all_apart xs tells each =
      apart_pieces 0 xs
      (λ k x y at h. let e : k ≡ 0 + k = omega arith in subst (λ m. Among y (f m x) → number y ≡ m) e (tells k x y at) h)
      (λ k x at. let e : k ≡ 0 + k = omega arith in subst (λ m. AllApart (f m x)) e (each k x at))

-- ---- names within instances

pub named_is : (a b : Named) → same_named a b ≡ true → a ≡ b
named_is a b h =
    let p = and_parts (nat_eq a.0 b.0) (same_numbers a.1 b.1) h in
    let number : a.0 ≡ b.0 = eqb-true a.0 b.0 p.0 in
    let text : a.1 ≡ b.1 = same_numbers_is a.1 b.1 p.1 in
    (λ i. (number i, text i))

pub once : (ns : List Named) → AllApart ns → named_once ns ≡ true
once [] apart = refl
once (n ∷ ns) apart =
    let none = none_from (same_named n) ns (λ x h. false_from_ne_true (same_named n x) (λ same. apart.0 (subst (λ w. Among w ns) (sym (named_is n x same)) h))) in
    and_from (not (list_any (same_named n) ns)) (named_once ns) (ap not none) (once ns apart.1)

-- ---- distinct names

distinct_head : (n : List ℕ) (ns : List (List ℕ)) → list_any (same_numbers n) ns ≡ false → Among n ns → ⊥
distinct_head n ns none h = true≢false (sym (any_has (same_numbers n) n ns h (same_numbers_refl n)) ∙ none)

pub distinct_apart : (ns : List (List ℕ)) → distinct ns ≡ true → AllApart ns
distinct_apart [] h = tt
distinct_apart (n ∷ ns) h =
    let p = and_parts (not (list_any (same_numbers n) ns)) (distinct ns) h in
    (distinct_head n ns (not-true (list_any (same_numbers n) ns) p.0), distinct_apart ns p.1)

-- what is told apart stands at one position
pub one_place : {X : Type 0} (xs : List X) (i j : ℕ) (x : X) → AllApart xs → slice_get xs i ≡ Some x → slice_get xs j ≡ Some x → i ≡ j
one_place [] i j x apart at_i at_j = cc
one_place (y ∷ xs) zero zero x apart at_i at_j = refl
one_place (y ∷ xs) zero (suc j) x apart at_i at_j = let e : x ≡ y = cc in absurd (apart.0 (subst (λ w. Among w xs) e (get_among xs j x at_j)))
one_place (y ∷ xs) (suc i) zero x apart at_i at_j = let e : x ≡ y = cc in absurd (apart.0 (subst (λ w. Among w xs) e (get_among xs i x at_i)))
one_place (y ∷ xs) (suc i) (suc j) x apart at_i at_j = ap suc (one_place xs i j x apart.1 at_i at_j)
