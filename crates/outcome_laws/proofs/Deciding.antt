-- What is decided: by parts, over lists, and the first number of which it holds.
use Rattle.std.proofs.Common.{◌≡◌, ℕ, zero, suc, ◌+◌, ◌<◌, List, [], ◌∷◌, Bool, true, false, nat_eq, Option, Some, None, ◌⊎◌, inl, inr, ⊎_elim, refl, sym, ap, subst, true≢false, arith}
use Rattle.std.proofs.lemmas.Bool.{eqb-true, eq-eqb}
use Rattle.plan_definitions.specs.Common.{Connector, Assembly, Delegation, InnerPort, IsFirst, Among}

pub bool_decided : (b : Bool) → Dec (b ≡ true)
bool_decided true = yes refl
bool_decided false = no (λ e. true≢false (sym e))

pub false_decided : (b : Bool) → Dec (b ≡ false)
false_decided true = no true≢false
false_decided false = yes refl

pub both : {A B : Type 0} → Dec A → Dec B → Dec (A × B)
both (yes a) (yes b) = yes (a, b)
both (yes a) (no b) = no (λ x. b x.1)
both (no a) b = no (λ x. a x.0)

pub either : {A B : Type 0} → Dec A → Dec B → Dec (A ⊎ B)
either (yes a) b = yes (inl a)
either (no a) (yes b) = yes (inr b)
either (no a) (no b) = no (λ x. ⊎_elim a b x)

pub as_well : {A B : Type 0} → (A → B) → (B → A) → Dec A → Dec B
as_well to from (yes a) = yes (to a)
as_well to from (no a) = no (λ b. a (from b))

pub refused : {A : Type 0} → Dec A → Dec (¬ A)
refused (yes a) = no (λ f. f a)
refused (no a) = yes a

pub some_of : {X : Type 0} (P : X → Type 0) → ((x : X) → Dec (P x)) → (xs : List X) → Dec ((x : X) × Among x xs × P x)
some_of P each [] = no (λ x. x.1)
some_of P each (y ∷ ys) = by (each y) (some_of P each ys)
  where
    by : Dec (P y) → Dec ((x : _) × Among x ys × P x) → Dec ((x : _) × Among x (y ∷ ys) × P x)
    by (yes p) rest = yes (y, inl refl, p)
    by (no p) (yes found) = yes (found.0, inr found.1, found.2)
    by (no p) (no none) = no (λ f. ⊎_elim (λ is. p (subst P is f.2)) (λ later. none (f.0, later, f.2)) f.1)

-- numbers, lists of them, and connectors are told apart
pub nat_decided : (a b : ℕ) → Dec (a ≡ b)
nat_decided a b = as_well (eqb-true a b) (eq-eqb a b) (bool_decided (nat_eq a b))

pub list_decided : (xs ys : List ℕ) → Dec (xs ≡ ys)
list_decided [] [] = yes refl
list_decided [] (y ∷ ys) = no (λ e. cc)
list_decided (x ∷ xs) [] = no (λ e. cc)
list_decided (x ∷ xs) (y ∷ ys) = as_well (λ p i. p.0 i ∷ p.1 i) (λ e. (cc, cc)) (both (nat_decided x y) (list_decided xs ys))

pub inner_decided : (p q : InnerPort) → Dec (p ≡ q)
inner_decided p q = as_well (λ e i. record { prototype = e.0 i; port = e.1 i }) (λ e. (ap (λ z. z.prototype) e, ap (λ z. z.port) e)) (both (nat_decided p.prototype q.prototype) (nat_decided p.port q.port))

pub connector_decided : (x y : Connector) → Dec (x ≡ y)
connector_decided (Assembly p r) (Assembly q s) = as_well (λ e i. Assembly (e.0 i) (e.1 i)) (λ e. (cc, cc)) (both (inner_decided p q) (inner_decided r s))
connector_decided (Assembly p r) (Delegation inner outer) = no (λ e. cc)
connector_decided (Delegation inner outer) (Assembly p r) = no (λ e. cc)
connector_decided (Delegation p o) (Delegation q u) = as_well (λ e i. Delegation (e.0 i) (e.1 i)) (λ e. (cc, cc)) (both (inner_decided p q) (nat_decided o u))

pub among_decided : {X : Type 0} → ((x y : X) → Dec (x ≡ y)) → (x : X) (xs : List X) → Dec (Among x xs)
among_decided same x [] = no (λ h. h)
among_decided same x (y ∷ ys) = either (same x y) (among_decided same x ys)

-- ---- the first number

module _ (P : ℕ → Type 0) (each : (n : ℕ) → Dec (P n)) where
  pub first_found : (limit : ℕ) → (o : Option ℕ) × IsFirst P limit o
  first_found zero = (None, λ n h. absurd (omega arith))
  first_found (suc limit) = by (first_found limit).0 (first_found limit).1 (each limit)
    where
      below : (n : ℕ) → n < limit + 1 → (n < limit) ⊎ (n ≡ limit)
      below n h = grind arith

      by : (o : Option ℕ) → IsFirst P limit o → Dec (P limit) → (o : Option ℕ) × IsFirst P (suc limit) o
      by (Some k) found d = (Some k, (omega (arith, found.0), found.1, found.2))
      by None none (yes p) = (Some limit, (omega arith, p, none))
      by None none (no p) = (None, λ n h q. ⊎_elim (λ l. none n l q) (λ is. p (subst P is q)) (below n (omega (arith, h))))
