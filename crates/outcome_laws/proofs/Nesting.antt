-- Which compositions hold which, and whether one contains itself (rule 9) or an instance stands too deep (rule 10).
use Rattle.std.proofs.Common.{◌≡◌, ℕ, zero, suc, ◌<◌, List, [], ◌∷◌, length, slice_get, Bool, true, false, nat_eq, Option, Some, None, option_map, option_and_then, inl, inr, ⊎_elim, refl}
use Rattle.std.proofs.Common.{sym, ap, ◌∙◌, true≢false, arith}
use Rattle.bus_semantics.specs.Common.{eqb-true, eq-eqb, or_cases, or_left, or_right, list_any, option_map_or}
use Rattle.description_types.specs.declared.description.Composition as declared
use Rattle.plan_definitions.specs.Common.{Description, Prototype, PrototypeType, IsFirst, Among, ContainsItself, is_composition, prototypes_of, type_at, type_in}
use Rattle.description_types.specs.declared.description.PrototypeType.TheVariants.{Component, Composition}
use Rattle.outcome_laws.proofs.Deciding.{as_well, bool_decided, first_found}
use Rattle.outcome_laws.proofs.Graphs.{Steps, reached, reaches, reaches_all}
use Rattle.composition_tables.proofs.InItself.{is_it}

-- the numbers below a limit
abbrev pub below : ℕ → List ℕ
below zero = []
below (suc n) = n ∷ below n

pub in_below : (n k : ℕ) → k < n → Among k (below n)
in_below zero k h = absurd (omega arith)
in_below (suc n) k h = by (in_below n k) (nat_eq k n) refl
  where
    less : nat_eq k n ≡ false → k < n
    less e = grind arith

    by : (k < n → Among k (below n)) → (b : Bool) → nat_eq k n ≡ b → Among k (below (suc n))
    by rest true is = inl (eqb-true k n is)
    by rest false is = inr (rest (less is))

any_there : {X : Type 0} (test : X → Bool) (xs : List X) (n : ℕ) (x : X) → slice_get xs n ≡ Some x → test x ≡ true → list_any test xs ≡ true
any_there test [] n x at h = absurd cc
any_there test (y ∷ ys) zero x at h = let is : y ≡ x = cc in or_left (test y) (list_any test ys) (ap test is ∙ h)
any_there test (y ∷ ys) (suc n) x at h = or_right (test y) (list_any test ys) (any_there test ys n x at h)

any_found : {X : Type 0} (test : X → Bool) (xs : List X) → list_any test xs ≡ true → (n : ℕ) × (x : X) × (slice_get xs n ≡ Some x) × (test x ≡ true)
any_found test [] h = absurd (true≢false (sym h))
any_found test (y ∷ ys) h = ⊎_elim (λ here. (0, y, refl, here)) (λ later. let f = any_found test ys later in (suc f.0, f.1, f.2, f.3)) (or_cases (test y) (list_any test ys) h)

module _ (d : Description) where
  -- the composition c holds the composition e
  abbrev pub holds : ℕ → ℕ → Bool
  holds c e = list_any (λ (p : Prototype). is_composition e p.of_type) (prototypes_of d c)

  is_type : (e : ℕ) (t : PrototypeType) → t ≡ Composition e → is_composition e t ≡ true
  is_type e t is = ap (is_composition e) is ∙ eq-eqb e e refl

  held : (c e : ℕ) → holds c e ≡ true → (q : ℕ) × (type_in d (Composition c) q ≡ Some (Composition e))
  held c e h = let f = any_found (λ (p : Prototype). is_composition e p.of_type) (prototypes_of d c) h in
      (f.0, ap (option_map (λ (p : Prototype). p.of_type)) f.2 ∙ ap Some (is_it e f.1.of_type f.3))

  holding : (c e q : ℕ) → type_in d (Composition c) q ≡ Some (Composition e) → holds c e ≡ true
  holding c e q h = by (slice_get (prototypes_of d c) q) refl h
    where
      by : (o : Option Prototype) → slice_get (prototypes_of d c) q ≡ o → option_map (λ (p : Prototype). p.of_type) o ≡ Some (Composition e) → holds c e ≡ true
      by None at is = absurd cc
      by (Some p) at is = let same : p.of_type ≡ Composition e = cc in any_there (λ (p : Prototype). is_composition e p.of_type) (prototypes_of d c) q p at (is_type e p.of_type same)

  -- a path is a way over compositions that hold the next one
  pub way_of : (c : ℕ) (q : ℕ) (path : List ℕ) (e : ℕ) → type_at d (Composition c) (q ∷ path) ≡ Some (Composition e) → Steps holds (length path) c e
  way_of c q [] e is = holding c e q is
  way_of c q (r ∷ path) e is = by (type_at d (Composition c) (r ∷ path)) refl is (way_of c r path)
    where
      by : (o : Option PrototypeType) → type_at d (Composition c) (r ∷ path) ≡ o → option_and_then (λ h. type_in d h q) o ≡ Some (Composition e)
          → ((m : ℕ) → type_at d (Composition c) (r ∷ path) ≡ Some (Composition m) → Steps holds (length path) c m) → Steps holds (suc (length path)) c e
      by None at is before = absurd cc
      by (Some (Component k)) at is before = absurd cc
      by (Some (Composition m)) at is before = (m, before m at, holding m e q is)

  pub path_of : (n c e : ℕ) → Steps holds n c e → (q : ℕ) × (path : List ℕ) × (length path ≡ n) × (type_at d (Composition c) (q ∷ path) ≡ Some (Composition e))
  path_of zero c e s = let f = held c e s in (f.0, [], refl, f.1)
  path_of (suc n) c e (m, s, h) = let (q, path, long, leads) = path_of n c m s in let f = held m e h in
      (f.0, q ∷ path, ap suc long, ap (option_and_then (λ x. type_in d x f.0)) leads ∙ f.1)

  pub declared_of : (c e : ℕ) → holds c e ≡ true → c < length d.compositions
  declared_of c e h = by d.compositions c h
    where
      by : (xs : List declared.Composition) (n : ℕ) → list_any (λ (p : Prototype). is_composition e p.of_type) (option_map_or (λ (x : declared.Composition). x.prototypes) (slice_get xs n) []) ≡ true → n < length xs
      by [] n h = absurd (true≢false (sym h))
      by (x ∷ xs) zero h = omega arith
      by (x ∷ xs) (suc n) h = omega (arith, by xs n h)

  abbrev pub nodes : List ℕ
  nodes = below (length d.compositions)

  pub known : (c e : ℕ) → holds c e ≡ true → Among c nodes
  known c e h = in_below (length d.compositions) c (declared_of c e h)

  -- rule 9
  contains : (c : ℕ) → reaches holds nodes c c ≡ true → ContainsItself d c
  contains c h = let (n, s) = reached holds nodes c c h in let (q, path, long, leads) = path_of n c c s in (q, path, leads)

  pub nesting_decided : (c : ℕ) → Dec (ContainsItself d c)
  nesting_decided c = as_well (contains c) (λ f. reaches_all holds nodes known (length f.1) c c (way_of c f.0 f.1 c f.2)) (bool_decided (reaches holds nodes c c))

  pub first_nested : (o : Option ℕ) × IsFirst (ContainsItself d) (length d.compositions) o
  first_nested = first_found (ContainsItself d) nesting_decided (length d.compositions)
