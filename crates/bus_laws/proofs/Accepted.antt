-- A program of which nothing is refused is sound, where its numbers are in range.
use Rattle.std.proofs.Common.{◌≡◌, ◌+◌, ℕ, Bool, true, false, not, ◌&&◌, ◌||◌, ◌==◌, nat_lt, nat_le, refl, arith, List, [], ◌∷◌, ◌++◌, length, Option, Some, None, is_some}
use Rattle.bus_semantics.specs.Common.{list_all, nat_tests, and_from, and_parts, AccessSig, StmtTree, chooses, repeats, in_area, BodyTree, done, next, has_access, body_cost, Test, within}
use Rattle.bus_semantics.specs.Common.{here, under, failing_in, failing_among, first, lacks_access, is_declared_before, is_call, calls_inside, is_too_large, failing, whole, of_rule, refusal}
use Rattle.bus_semantics.specs.Common.{Runnable, is_in_range, is_declared_after, calls_outside, each_in, each_of, is_well_formed, body_sound}
use Rattle.std.proofs.lemmas.Bool.{not-false}

-- ---- lists of which nothing is first

empty_first : {X : Type 0} (xs : List X) → first xs ≡ None → xs ≡ []
empty_first [] none = refl
empty_first (x ∷ xs) none = cc

empty_left : {X : Type 0} (xs ys : List X) → xs ++ ys ≡ [] → xs ≡ []
empty_left [] ys none = refl
empty_left (x ∷ xs) ys none = cc

empty_right : {X : Type 0} (xs ys : List X) → xs ++ ys ≡ [] → ys ≡ []
empty_right [] ys none = none
empty_right (x ∷ xs) ys none = cc

empty_under : (i : ℕ) (paths : List (List ℕ)) → under i paths ≡ [] → paths ≡ []
empty_under i [] none = refl
empty_under i (p ∷ ps) none = cc

empty_rule : (rule : ℕ) (paths : List (List ℕ)) → of_rule rule paths ≡ [] → paths ≡ []
empty_rule rule [] none = refl
empty_rule rule (p ∷ ps) none = cc

-- the statement itself does not fail, and nothing within it does
passed : (fails : Bool) (paths : List (List ℕ)) → here fails paths ≡ [] → fails ≡ false
passed true paths none = cc
passed false paths none = refl

empty_within : (fails : Bool) (paths : List (List ℕ)) → here fails paths ≡ [] → paths ≡ []
empty_within true paths none = cc
empty_within false paths none = none

-- ---- no statement fails a test where no path is found

-- the areas around a statement, seen by the rules: the greatest of them tells where the next one may stand
record Stands (around : Option ℕ) (areas : List ℕ) : Type 0 where
  after : (x : ℕ) (body : BodyTree) → is_declared_before around (in_area x body) ≡ false → list_all (λ a. nat_lt a x) areas ≡ true
  outside : is_some around ≡ false → (length areas == 0) ≡ true

module _ (fails : Test) (test : List ℕ → StmtTree → Bool) (link : (around : Option ℕ) (areas : List ℕ) (s : StmtTree) → Stands around areas → fails around s ≡ false → test areas s ≡ true)
    (step : (around : Option ℕ) (areas : List ℕ) (x : ℕ) → Stands around areas → Stands (within around x) (x ∷ areas)) where
  mutual
    unbroken_in : (around : Option ℕ) (areas : List ℕ) → Stands around areas → (s : StmtTree) → failing_in fails around s ≡ [] → each_in test areas s ≡ true
    unbroken_in around areas stands (chooses c one two) none =
        let f = fails around (chooses c one two) in
        let os = under 2 (failing_among fails around 0 one) in
        let ts = under 3 (failing_among fails around 0 two) in
        let parts = empty_within f (os ++ ts) none in
        and_from (test areas (chooses c one two)) (each_of test areas one && each_of test areas two) (link around areas (chooses c one two) stands (passed f (os ++ ts) none))
        (and_from (each_of test areas one) (each_of test areas two)
        (unbroken_of around areas stands 0 one (empty_under 2 (failing_among fails around 0 one) (empty_left os ts parts)))
        (unbroken_of around areas stands 0 two (empty_under 3 (failing_among fails around 0 two) (empty_right os ts parts))))
    unbroken_in around areas stands (repeats n body) none =
        let f = fails around (repeats n body) in
        let paths = failing_among fails around 0 body in
        and_from (test areas (repeats n body)) (each_of test areas body) (link around areas (repeats n body) stands (passed f (under 2 paths) none))
        (unbroken_of around areas stands 0 body (empty_under 2 paths (empty_within f (under 2 paths) none)))
    unbroken_in around areas stands (in_area x body) none =
        let f = fails around (in_area x body) in
        let paths = failing_among fails (within around x) 0 body in
        and_from (test areas (in_area x body)) (each_of test (x ∷ areas) body) (link around areas (in_area x body) stands (passed f (under 2 paths) none))
        (unbroken_of (within around x) (x ∷ areas) (step around areas x stands) 0 body (empty_under 2 paths (empty_within f (under 2 paths) none)))
    unbroken_in around areas stands s none = link around areas s stands (passed (fails around s) [] none)

    unbroken_of : (around : Option ℕ) (areas : List ℕ) → Stands around areas → (i : ℕ) (body : BodyTree) → failing_among fails around i body ≡ [] → each_of test areas body ≡ true
    unbroken_of around areas stands i done none = refl
    unbroken_of around areas stands i (next s body) none =
        let here = under i (failing_in fails around s) in
        let rest = failing_among fails around (i + 1) body in
        and_from (each_in test areas s) (each_of test areas body)
        (unbroken_in around areas stands s (empty_under i (failing_in fails around s) (empty_left here rest none)))
        (unbroken_of around areas stands (i + 1) body (empty_right here rest none))

-- ---- the rules

-- one area more around
step_after : (around : Option ℕ) (areas : List ℕ) (x y : ℕ) (body : BodyTree) → Stands around areas → is_declared_before (within around x) (in_area y body) ≡ false → list_all (λ a. nat_lt a y) (x ∷ areas) ≡ true
step_after None areas x y body stands below = and_from (nat_lt x y) (list_all (λ a. nat_lt a y) areas) (grind (arith, nat_tests)) (stands.after y body refl)
step_after (Some g) areas x y body stands below =
    and_from (nat_lt x y) (list_all (λ a. nat_lt a y) areas) (grind (arith, nat_tests)) (stands.after y body (grind (arith, nat_tests)))

has_some : (around : Option ℕ) (x : ℕ) → is_some (within around x) ≡ true
has_some None x = refl
has_some (Some g) x = refl

step : (around : Option ℕ) (areas : List ℕ) (x : ℕ) → Stands around areas → Stands (within around x) (x ∷ areas)
step around areas x stands = record {
  after = λ y body below. step_after around areas x y body stands below;
  outside = λ none. absurd (cc (has_some around x));
}

nowhere : Stands None []
nowhere = record { after = λ x body below. refl; outside = λ none. refl }

access_link : (accesses : List AccessSig) (around : Option ℕ) (areas : List ℕ) (s : StmtTree) → Stands around areas → lacks_access accesses around s ≡ false → has_access accesses s ≡ true
access_link accesses around areas s stands passes = not-false (has_access accesses s) passes

after_link : (around : Option ℕ) (areas : List ℕ) (s : StmtTree) → Stands around areas → is_declared_before around s ≡ false → is_declared_after areas s ≡ true
after_link around areas (in_area x body) stands passes = stands.after x body passes
after_link around areas s stands passes = refl

outside_or_none : (inside none call : Bool) → (inside ≡ false → none ≡ true) → (inside && call) ≡ false → (none || not call) ≡ true
outside_or_none false none call so passes = rw (so refl) refl
outside_or_none true true call so passes = refl
outside_or_none true false true so passes = cc
outside_or_none true false false so passes = refl

outside_link : (around : Option ℕ) (areas : List ℕ) (s : StmtTree) → Stands around areas → calls_inside around s ≡ false → calls_outside areas s ≡ true
outside_link around areas s stands passes = outside_or_none (is_some around) (length areas == 0) (is_call s) stands.outside passes

-- ---- several tests at once

module _ (f g : List ℕ → StmtTree → Bool) where
  mutual
    both_in : (areas : List ℕ) (s : StmtTree) → each_in f areas s ≡ true → each_in g areas s ≡ true → each_in (λ around t. f around t && g around t) areas s ≡ true
    both_in areas (chooses c one two) p q =
        let s = chooses c one two in
        let p' = and_parts (f areas s) (each_of f areas one && each_of f areas two) p in
        let q' = and_parts (g areas s) (each_of g areas one && each_of g areas two) q in
        let p'' = and_parts (each_of f areas one) (each_of f areas two) p'.1 in
        let q'' = and_parts (each_of g areas one) (each_of g areas two) q'.1 in
        let h = λ (around : List ℕ) (t : StmtTree). f around t && g around t in
        and_from (h areas s) (each_of h areas one && each_of h areas two) (and_from (f areas s) (g areas s) p'.0 q'.0)
        (and_from (each_of h areas one) (each_of h areas two) (both_of areas one p''.0 q''.0) (both_of areas two p''.1 q''.1))
    both_in areas (repeats n body) p q =
        let s = repeats n body in
        let p' = and_parts (f areas s) (each_of f areas body) p in
        let q' = and_parts (g areas s) (each_of g areas body) q in
        let h = λ (around : List ℕ) (t : StmtTree). f around t && g around t in
        and_from (h areas s) (each_of h areas body) (and_from (f areas s) (g areas s) p'.0 q'.0) (both_of areas body p'.1 q'.1)
    both_in areas (in_area x body) p q =
        let s = in_area x body in
        let p' = and_parts (f areas s) (each_of f (x ∷ areas) body) p in
        let q' = and_parts (g areas s) (each_of g (x ∷ areas) body) q in
        let h = λ (around : List ℕ) (t : StmtTree). f around t && g around t in
        and_from (h areas s) (each_of h (x ∷ areas) body) (and_from (f areas s) (g areas s) p'.0 q'.0) (both_of (x ∷ areas) body p'.1 q'.1)
    both_in areas s p q = and_from (f areas s) (g areas s) p q

    both_of : (areas : List ℕ) (body : BodyTree) → each_of f areas body ≡ true → each_of g areas body ≡ true → each_of (λ around t. f around t && g around t) areas body ≡ true
    both_of areas done p q = refl
    both_of areas (next s body) p q =
        let p' = and_parts (each_in f areas s) (each_of f areas body) p in
        let q' = and_parts (each_in g areas s) (each_of g areas body) q in
        let h = λ (around : List ℕ) (t : StmtTree). f around t && g around t in
        and_from (each_in h areas s) (each_of h areas body) (both_in areas s p'.0 q'.0) (both_of areas body p'.1 q'.1)

-- ---- programs

whole_fits : (large : Bool) → whole large ≡ [] → large ≡ false
whole_fits true none = cc
whole_fits false none = refl

within_cost : (cost vars : ℕ) → (nat_lt 100000 cost || nat_lt 256 vars) ≡ false → nat_le cost 100000 ≡ true
within_cost cost vars small = grind (arith, nat_tests)

within_vars : (cost vars : ℕ) → (nat_lt 100000 cost || nat_lt 256 vars) ≡ false → nat_le vars 256 ≡ true
within_vars cost vars small = grind (arith, nat_tests)

-- what is broken of a program, rule by rule
abbrev pub of_access : Runnable → List (ℕ × List ℕ)
of_access r = of_rule 17 (failing (lacks_access r.accesses) r.program)

abbrev pub of_size : Runnable → List (ℕ × List ℕ)
of_size r = of_rule 18 (whole (is_too_large r.program))

abbrev pub of_order : Runnable → List (ℕ × List ℕ)
of_order r = of_rule 19 (failing is_declared_before r.program)

abbrev pub of_calls : Runnable → List (ℕ × List ℕ)
of_calls r = of_rule 20 (failing calls_inside r.program)

module _ (r : Runnable) (accepted : refusal r.accesses r.program ≡ None) where
  nothing_broken : of_access r ++ (of_size r ++ (of_order r ++ of_calls r)) ≡ []
  nothing_broken = empty_first (of_access r ++ (of_size r ++ (of_order r ++ of_calls r))) accepted

  after_access : of_size r ++ (of_order r ++ of_calls r) ≡ []
  after_access = empty_right (of_access r) (of_size r ++ (of_order r ++ of_calls r)) nothing_broken

  after_size : of_order r ++ of_calls r ≡ []
  after_size = empty_right (of_size r) (of_order r ++ of_calls r) after_access

  have_access : each_of (λ areas s. has_access r.accesses s) [] r.program.body ≡ true
  have_access =
      unbroken_of (lacks_access r.accesses) (λ areas s. has_access r.accesses s) (access_link r.accesses) step None [] nowhere 0 r.program.body
      (empty_rule 17 (failing (lacks_access r.accesses) r.program) (empty_left (of_access r) (of_size r ++ (of_order r ++ of_calls r)) nothing_broken))

  are_declared_after : each_of is_declared_after [] r.program.body ≡ true
  are_declared_after =
      unbroken_of is_declared_before is_declared_after after_link step None [] nowhere 0 r.program.body
      (empty_rule 19 (failing is_declared_before r.program) (empty_left (of_order r) (of_calls r) after_size))

  call_outside : each_of calls_outside [] r.program.body ≡ true
  call_outside =
      unbroken_of calls_inside calls_outside outside_link step None [] nowhere 0 r.program.body
      (empty_rule 20 (failing calls_inside r.program) (empty_right (of_order r) (of_calls r) after_size))

  small : is_too_large r.program ≡ false
  small = whole_fits (is_too_large r.program) (empty_rule 18 (whole (is_too_large r.program)) (empty_left (of_size r) (of_order r ++ of_calls r) after_access))

  pub statements_sound : is_well_formed r.program ≡ true → body_sound r r.program.body [] ≡ true
  statements_sound formed =
      both_of (λ around s. has_access r.accesses s && is_in_range r.program.vars s) (λ around s. is_declared_after around s && calls_outside around s) [] r.program.body
      (both_of (λ around s. has_access r.accesses s) (λ around s. is_in_range r.program.vars s) [] r.program.body have_access formed)
      (both_of is_declared_after calls_outside [] r.program.body are_declared_after call_outside)

  pub cost_sound : nat_le (body_cost r.program.body) 100000 ≡ true
  cost_sound = within_cost (body_cost r.program.body) r.program.vars small

  pub vars_sound : nat_le r.program.vars 256 ≡ true
  vars_sound = within_vars (body_cost r.program.body) r.program.vars small
