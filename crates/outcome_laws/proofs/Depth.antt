-- Whether an instance stands too deep (rule 10).
use Rattle.std.proofs.Common.{◌≡◌, ℕ, zero, suc, ◌<◌, ◌≤◌, List, [], ◌∷◌, length, slice_get, true, Option, Some, None, option_map, option_and_then, ◌⊎◌, inl, inr, ⊎_elim, refl, sym, ap}
use Rattle.std.proofs.Common.{subst, ◌∙◌, arith}
use Rattle.std.specs.Option.{option_map_or}
use Rattle.description_types.specs.declared.description.Composition as declared_type
use Rattle.plan_definitions.specs.Common.{Description, Prototype, PrototypeType, Among, prototypes_of, type_at, type_in, IsTooDeep}
use Rattle.description_types.specs.declared.description.PrototypeType.TheVariants.{Component, Composition}
use Rattle.outcome_laws.proofs.Deciding.{as_well, bool_decided, both, either, nat_decided, some_of}
use Rattle.outcome_laws.proofs.Graphs.{Steps, reached, reaches, reaches_all, steps_join}
use Rattle.outcome_laws.proofs.Nesting.{holds, in_below, known, nodes, path_of, way_of}

module _ (d : Description) where
  -- some component stands in the composition c
  abbrev HasComponent : ℕ → Type 0
  HasComponent c = (q : ℕ) × (k : ℕ) × (type_in d (Composition c) q ≡ Some (Component k))

  component_decided : (t : PrototypeType) → Dec ((k : ℕ) × (t ≡ Component k))
  component_decided (Component k) = yes (k, refl)
  component_decided (Composition c) = no (λ f. let e : Composition c ≡ Component f.0 = f.1 in cc)

  abbrev Has : List Prototype → Type 0
  Has ps = (q : ℕ) × (k : ℕ) × (option_map (λ (p : Prototype). p.of_type) (slice_get ps q) ≡ Some (Component k))

  none : (p : Prototype) (ps : List Prototype) → ¬ ((k : ℕ) × (p.of_type ≡ Component k)) → ¬ Has ps → (q k : ℕ) → option_map (λ (p : Prototype). p.of_type) (slice_get (p ∷ ps) q) ≡ Some (Component k) → ⊥
  none p ps here later zero k e = here (k, cc)
  none p ps here later (suc q) k e = later (q, k, e)

  one_more : (p : Prototype) (ps : List Prototype) → Dec ((k : ℕ) × (p.of_type ≡ Component k)) → Dec (Has ps) → Dec (Has (p ∷ ps))
  one_more p ps (yes (k, is)) rest = yes (0, k, ap Some is)
  one_more p ps (no here) (yes (q, k, is)) = yes (suc q, k, is)
  one_more p ps (no here) (no later) = no (λ f. none p ps here later f.0 f.1 f.2)

  in_list : (ps : List Prototype) → Dec (Has ps)
  in_list [] = no (λ f. let e : None ≡ Some (Component f.1) = f.2 in cc)
  in_list (p ∷ ps) = one_more p ps (component_decided p.of_type) (in_list ps)

  has_decided : (c : ℕ) → Dec (HasComponent c)
  has_decided c = in_list (prototypes_of d c)

  declared : (c : ℕ) → HasComponent c → Among c (nodes d)
  declared c (q, k, is) = in_below (length d.compositions) c (by d.compositions c is)
    where
      by : (xs : List declared_type.Composition) (n : ℕ) → option_map (λ (p : Prototype). p.of_type) (slice_get (option_map_or (λ (x : declared_type.Composition). x.prototypes) (slice_get xs n) []) q) ≡ Some (Component k) → n < length xs
      by [] n h = absurd cc
      by (x ∷ xs) zero h = omega arith
      by (x ∷ xs) (suc n) h = omega (arith, by xs n h)

  -- ways of so many steps, and of at least so many
  way_decided : (n a b : ℕ) → Dec (Steps (holds d) n a b)
  way_decided zero a b = bool_decided (holds d a b)
  way_decided (suc n) a b = as_well (λ f. (f.0, f.2.0, f.2.1)) (λ s. (s.0, known d s.0 b s.2, (s.1, s.2)))
      (some_of (λ m. Steps (holds d) n a m × (holds d m b ≡ true)) (λ m. both (way_decided n a m) (bool_decided (holds d m b))) (nodes d))

  abbrev AtLeast : ℕ → ℕ → ℕ → Type 0
  AtLeast n a b = (l : ℕ) × (n ≤ l) × Steps (holds d) l a b

  abbrev Over : ℕ → ℕ → ℕ → Type 0
  Over n a b = (x : ℕ) × Among x (nodes d) × (Steps (holds d) n a x × (reaches (holds d) (nodes d) x b ≡ true))

  longer : (n a b : ℕ) → Steps (holds d) n a b ⊎ Over n a b → AtLeast n a b
  longer n a b (inl s) = (n, omega arith, s)
  longer n a b (inr (x, within, (s, r))) = let (k, t) = reached (holds d) (nodes d) x b r in let (l, long, u) = steps_join (holds d) n k a x b s t in (l, omega (arith, long), u)

  first_edge : (n a b : ℕ) → Steps (holds d) n a b → Among a (nodes d)
  first_edge zero a b e = known d a b e
  first_edge (suc n) a b (m, s, e) = first_edge n a m s

  cut : (n l a b : ℕ) → n ≤ l → Steps (holds d) l a b → Steps (holds d) n a b ⊎ ((x : ℕ) × Steps (holds d) n a x × ((k : ℕ) × Steps (holds d) k x b))
  cut n zero a b le s = let same : 0 ≡ n = omega arith in inl (subst (λ k. Steps (holds d) k a b) same s)
  cut n (suc l) a b le (m, s, e) = by (cut n l a m) (nat_decided n (suc l))
    where
      less : ¬ (n ≡ suc l) → n ≤ l
      less h = grind arith

      on : Steps (holds d) n a m ⊎ ((x : ℕ) × Steps (holds d) n a x × ((k : ℕ) × Steps (holds d) k x m)) → Steps (holds d) n a b ⊎ ((x : ℕ) × Steps (holds d) n a x × ((k : ℕ) × Steps (holds d) k x b))
      on (inl t) = inr (m, t, (0, e))
      on (inr (x, t, (k, u))) = inr (x, t, (suc k, (m, u, e)))

      by : (n ≤ l → Steps (holds d) l a m → Steps (holds d) n a m ⊎ ((x : ℕ) × Steps (holds d) n a x × ((k : ℕ) × Steps (holds d) k x m))) → Dec (n ≡ suc l)
          → Steps (holds d) n a b ⊎ ((x : ℕ) × Steps (holds d) n a x × ((k : ℕ) × Steps (holds d) k x b))
      by rest (yes same) = inl (subst (λ k. Steps (holds d) k a b) (sym same) (m, s, e))
      by rest (no other) = on (rest (less other) s)

  parts : (n a b : ℕ) → AtLeast n a b → Steps (holds d) n a b ⊎ Over n a b
  parts n a b (l, le, s) = ⊎_elim (λ t. inl t) (λ f. inr (f.0, first_edge f.2.0 f.0 b f.2.1, (f.1, reaches_all (holds d) (nodes d) (known d) f.2.0 f.0 b f.2.1))) (cut n l a b le s)

  long_decided : (n a b : ℕ) → Dec (AtLeast n a b)
  long_decided n a b = as_well (longer n a b) (parts n a b)
      (either (way_decided n a b) (some_of (λ x. Steps (holds d) n a x × (reaches (holds d) (nodes d) x b ≡ true)) (λ x. both (way_decided n a x) (bool_decided (reaches (holds d) (nodes d) x b))) (nodes d)))

  -- ---- an instance that stands too deep

  abbrev Deep : Type 0
  Deep = (m : ℕ) × Among m (nodes d) × (AtLeast 7 d.root m × HasComponent m)

  deep_path : Deep → IsTooDeep d
  deep_path (m, within, ((l, le, s), (q, k, is))) = let (r, path, long, leads) = path_of d l d.root m s in
      (q ∷ (r ∷ path), k, ap (option_and_then (λ h. type_in d h q)) leads ∙ is, omega (arith, long, le))

  path_deep : IsTooDeep d → Deep
  path_deep ([], k, is, deep) = absurd (omega (arith, deep))
  path_deep (q ∷ [], k, is, deep) = absurd (omega (arith, deep))
  path_deep (q ∷ (r ∷ path), k, is, deep) = by (type_at d (Composition d.root) (r ∷ path)) refl is
    where
      by : (o : Option PrototypeType) → type_at d (Composition d.root) (r ∷ path) ≡ o → option_and_then (λ h. type_in d h q) o ≡ Some (Component k) → Deep
      by None at h = absurd cc
      by (Some (Component x)) at h = absurd cc
      by (Some (Composition m)) at h = (m, declared m (q, k, h), ((length path, omega (arith, deep), way_of d d.root r path m at), (q, k, h)))

  pub depth_decided : Dec (IsTooDeep d)
  depth_decided = as_well deep_path path_deep (some_of (λ m. AtLeast 7 d.root m × HasComponent m) (λ m. both (long_decided 7 d.root m) (has_decided m)) (nodes d))
