-- The search for ends, step by step.
use Rattle.std.proofs.Common.{◌≡◌, ℕ, zero, suc, ◌+◌, ◌<◌, ◌≤◌, min, List, [], ◌∷◌, ◌++◌, length, get_or, take, slice_get, Vec, Option, Some, None, ◌⊎◌, inl, inr, ⊎_elim, ◌↔◌, refl, sym, ap}
use Rattle.std.proofs.Common.{subst, ◌∙◌, arith}
use Rattle.std.proofs.lemmas.Grind.{flat_map-append}
use Rattle.std.proofs.lemmas.List.{take_more, append-nil}
use Rattle.std.specs.Global.{Global}
use Rattle.std.specs.List.{flat_map}
use Rattle.std.specs.Option.{option_map_or}
use Rattle.description_types.specs.declared.description.Description.{Description}
use Rattle.description_types.specs.declared.description.InnerPort.{InnerPort}
use Rattle.description_types.specs.declared.description.Prototype.{Prototype}
use Rattle.description_types.specs.declared.description.PrototypeType.{PrototypeType}
use Rattle.description_types.specs.declared.description.PrototypeType.TheVariants.{Component, Composition}
use Rattle.composition_tables.specs.declared.tree.PortEnd.{PortEnd}
use Rattle.composition_tables.specs.Counts.{IsCounted, count_in}
use Rattle.composition_tables.specs.Ends.{ends, inner_ends, inner_ports, number_from, offset}
use Rattle.description_types.specs.Places.{size, size_of}
use Rattle.description_types.specs.Members.{Among, sum_of}
use Rattle.description_types.specs.Paths.{prototypes_of, type_in}
use Rattle.composition_tables.specs.Trees.{IsStarted, start_in, items_of}
use Rattle.composition_tables.proofs.Members.{left, right, cases, unflat, get_some, past_end}
use Rattle.composition_tables.proofs.Counting.{counted}
use Rattle.composition_tables.proofs.Steps.{step_is}

pub sum_zero : {X : Type 0} (f : X → ℕ) (x : X) (xs : List X) → sum_of f xs ≡ 0 → Among x xs → f x ≡ 0
sum_zero f x [] z h = absurd h
sum_zero f x (y ∷ xs) z (inl e) = ap f e ∙ omega arith
sum_zero f x (y ∷ xs) z (inr h) = sum_zero f x xs (omega arith) h

pub inner_cases : (d : Description) (n : ℕ) (deeper : PrototypeType → ℕ → ℕ → List PortEnd) (c first : ℕ) (inner : InnerPort) (x : PortEnd) → Among x (inner_ends d n deeper c first inner)
    → (t : PrototypeType) × (type_in d (Composition c) inner.prototype ≡ Some t) × Among x (deeper t (number_from first (offset d n c inner.prototype)) inner.port)
inner_cases d n deeper c first inner x h = by (type_in d (Composition c) inner.prototype) refl h
  where
    by : (o : Option PrototypeType) → type_in d (Composition c) inner.prototype ≡ o → Among x (option_map_or (λ t. deeper t (number_from first (offset d n c inner.prototype)) inner.port) o [])
        → (t : PrototypeType) × (type_in d (Composition c) inner.prototype ≡ Some t) × Among x (deeper t (number_from first (offset d n c inner.prototype)) inner.port)
    by None is h = absurd h
    by (Some t) is h = (t, is, h)

module _ (d : Description) where
  -- no end stands below a composition without instances
  dead_type : (n c q first port : ℕ) (t : PrototypeType) (x : PortEnd) → size d (suc n) c ≡ 0 → type_in d (Composition c) q ≡ Some t
      → ((e first port : ℕ) → size d n e ≡ 0 → Among x (ends d n (Composition e) first port) → ⊥) → Among x (ends d n t first port) → ⊥
  dead_type n c q first port t x none is deeper h =
      let p = step_is d c q t is in
      let zero_size : size_of (size d n) t ≡ 0 = ap (size_of (size d n)) (sym p.2) ∙ sum_zero (λ (p : Prototype). size_of (size d n) p.of_type) p.0 (prototypes_of d c) none (get_some (prototypes_of d c) q p.0 p.1) in
      by t zero_size h
    where
      by : (u : PrototypeType) → size_of (size d n) u ≡ 0 → Among x (ends d n u first port) → ⊥
      by (Component k) z g = omega arith
      by (Composition e) z g = deeper e first port z g

  pub dead : (n c first port : ℕ) (x : PortEnd) → size d n c ≡ 0 → Among x (ends d n (Composition c) first port) → ⊥
  dead zero c first port x none h = h
  dead (suc n) c first port x none h =
      let inner = unflat (inner_ends d n (ends d n) c first) (inner_ports d c port) x h in
      let t = inner_cases d n (ends d n) c first inner.0 x inner.2 in
      dead_type n c inner.0.prototype (number_from first (offset d n c inner.0.prototype)) inner.0.port t.0 x none t.1 (λ e f p. dead n e f p x) t.2

  pub dead_spot : (levels : List (Vec ℕ Global)) (depth c count first port : ℕ) (t : PrototypeType) → IsCounted d levels → depth ≤ 8 → count ≡ count_in levels depth c → count ≡ 0 → t ≡ Composition c
      → (x : PortEnd) → Among x (ends d depth t first port) → ⊥
  dead_spot levels depth c count first port t is within made none typed x h =
      let capped = counted d levels depth c is within in
      dead depth c first port x (omega arith) (subst (λ u. Among x (ends d depth u first port)) typed h)

-- the first of a list and one more
pub taken_more : {X Y : Type 0} (f : X → List Y) (xs : List X) (i : ℕ) (d : X) (y : Y) → i < length xs → Among y (flat_map f (take (i + 1) xs)) ↔ (Among y (flat_map f (take i xs)) ⊎ Among y (f (get_or xs i d)))
taken_more {X = X} {Y = Y} f xs i d y h =
    let grown : flat_map f (take (i + 1) xs) ≡ flat_map f (take i xs) ++ (f (get_or xs i d) ++ []) = ap (flat_map f) (take_more xs i d h) ∙ flat_map-append f (take i xs) (get_or xs i d ∷ []) in (
      (λ a. ⊎_elim (λ l. inl l) (λ r. inr (subst (Among y) (append-nil (f (get_or xs i d))) r)) (cases y (flat_map f (take i xs)) (f (get_or xs i d) ++ []) (subst (Among y) grown a))),
      (λ a. subst (Among y) (sym grown) (⊎_elim (λ l. left y (flat_map f (take i xs)) (f (get_or xs i d) ++ []) l) (λ r. right y (flat_map f (take i xs)) (f (get_or xs i d) ++ []) (subst (Among y) (sym (append-nil (f (get_or xs i d)))) r)) a)),
    )

-- what was so before, with the first of a list, is now so with one more of it
pub step_joined : (N O B T H U : Type 0) → N ↔ (O ⊎ H) → O ↔ (B ⊎ T) → U ↔ (T ⊎ H) → N ↔ (B ⊎ U)
step_joined N O B T H U now before more = (
  (λ n. ⊎_elim (λ o. ⊎_elim (λ b. inl b) (λ t. inr (more.1 (inl t))) (before.0 o)) (λ h. inr (more.1 (inr h))) (now.0 n)),
  (λ s. ⊎_elim (λ b. now.1 (inl (before.1 (inl b)))) (λ u. ⊎_elim (λ t. now.1 (inl (before.1 (inr t)))) (λ h. now.1 (inr h)) (more.0 u)) s),
)

-- the start that the tables have
pub started : (d : Description) (table : List (Vec (Vec ℕ Global) Global)) (depth c q : ℕ) → IsStarted d table → depth ≤ 8 → q < length (prototypes_of d c)
    → start_in (option_map_or items_of (slice_get table depth) []) c q ≡ min (offset d depth c q) 1025
started d table depth c q is within declared = by (slice_get table depth) refl
  where
    by : (o : Option (Vec (Vec ℕ Global) Global)) → slice_get table depth ≡ o → start_in (option_map_or items_of (slice_get table depth) []) c q ≡ min (offset d depth c q) 1025
    by None none = let past = past_end table depth none in absurd (omega (arith, is.0))
    by (Some starts) some = ap (λ (o : Option (Vec (Vec ℕ Global) Global)). start_in (option_map_or items_of o []) c q) some ∙ is.1 depth starts some c q declared

pub inner_is : (d : Description) (n c first start number : ℕ) (inner : InnerPort) (t : PrototypeType) → type_in d (Composition c) inner.prototype ≡ Some t
    → start ≡ min (offset d n c inner.prototype) 1025 → number ≡ number_from first start → ends d n t number inner.port ≡ inner_ends d n (ends d n) c first inner
inner_is d n c first start number inner t typed start_is number_is =
    let numbered : number ≡ number_from first (offset d n c inner.prototype) = number_is ∙ omega arith in
    sym (ap (λ o. option_map_or (λ u. ends d n u (number_from first (offset d n c inner.prototype)) inner.port) o []) typed ∙ ap (λ m. ends d n t m inner.port) (sym numbered))
