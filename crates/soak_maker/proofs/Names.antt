-- The names of instances: a letter and a number, and `acc`.
use Rattle.std.proofs.Common.{◌≡◌, ◌<◌, ◌≤◌, ◌+◌, ◌^◌, ℕ, Bool, true, false, nat_eq, List, [], ◌∷◌, length, drop, decimal, bytes_eq, Decides, refl, sym, ap, ◌∙◌, inl, inr, eqb-true, eq-eqb}
use Rattle.std.proofs.Common.{arith, if◌then◌else◌}
use Rattle.std.specs.Bool.{one_answer}
use Rattle.std.proofs.lemmas.Fmt.{decimal_injective}
use Rattle.std.proofs.lemmas.Slice.Eq.{bytes_eq-Decides}
use Rattle.declared_names.specs.Names.{position_in}
use Rattle.soak_maker.proofs.Lists.{AllAt, differ, length-three, three, three_at, above_still}
use Rattle.soak_maker.proofs.Soaked.{acc_name, c_name, p_name}

tails : (x : ℕ) (a b : List ℕ) → x ∷ a ≡ x ∷ b → a ≡ b
tails x a b e = ap (drop 1) e

pub letters_same : (x i j a b : ℕ) → i < 2 ^ 64 → j < 2 ^ 64 → (i ≡ j → a ≡ b) → (a ≡ b → i ≡ j) → bytes_eq (x ∷ decimal i) (x ∷ decimal j) ≡ nat_eq a b
letters_same x i j a b h k to back =
    let told : Decides (bytes_eq (x ∷ decimal i) (x ∷ decimal j)) (a ≡ b) = (
      (λ t. to (decimal_injective i j h k (tails x (decimal i) (decimal j) ((bytes_eq-Decides (x ∷ decimal i) (x ∷ decimal j)).0 t)))),
      (λ e. (bytes_eq-Decides (x ∷ decimal i) (x ∷ decimal j)).1 (ap (λ m. x ∷ decimal m) (back e))),
    ) in
    one_answer (bytes_eq (x ∷ decimal i) (x ∷ decimal j)) (nat_eq a b) told (eqb-true a b, eq-eqb a b)

-- the position among names of the only one that is this
pub position_in_is : (name : List ℕ) (i m : ℕ) (xs : List (List ℕ)) → AllAt (λ k x. bytes_eq x name ≡ nat_eq m k) i xs → i ≤ m → m < i + length xs → i + position_in xs name ≡ m
position_in_is name i m [] all least most = absurd (omega (arith, least, most))
position_in_is name i m (x ∷ xs) all least most =
    ap (λ b. i + (if b then 0 else 1 + position_in xs name)) all.0 ∙ by (λ more. position_in_is name (i + 1) m xs all.1 more (omega (arith, most))) (nat_eq m i) refl
  where
    by : (i + 1 ≤ m → i + 1 + position_in xs name ≡ m) → (b : Bool) → nat_eq m i ≡ b → i + (if b then 0 else 1 + position_in xs name) ≡ m
    by rest true e = let same = eqb-true m i e in omega (arith, same)
    by rest false e = let found = rest (above_still m i least e) in omega (arith, found)

-- ---- among the names of all instances, which is this

module _ (n : ℕ) (few : n ≤ 64) where
  abbrev pub IsAt : List ℕ → ℕ → ℕ → List ℕ → Type 0
  IsAt name m k x = bytes_eq x name ≡ nat_eq m k

  pub p_at : (i : ℕ) → i < n → ((j : ℕ) → j < n → IsAt (p_name i) i j (p_name j)) × ((j : ℕ) → j < n → IsAt (p_name i) i (n + j) (c_name j)) × IsAt (p_name i) i (n + n) acc_name
  p_at i h = (
    (λ j k. letters_same 112 j i i j (omega (arith, few, k)) (omega (arith, few, h)) (λ e. sym e) (λ e. sym e)),
    (λ j k. sym (differ i (n + j) (inl (omega (arith, h))))),
    sym (differ i (n + n) (inl (omega (arith, h)))),
  )

  pub c_at : (i : ℕ) → i < n → ((j : ℕ) → j < n → IsAt (c_name i) (n + i) j (p_name j)) × ((j : ℕ) → j < n → IsAt (c_name i) (n + i) (n + j) (c_name j)) × IsAt (c_name i) (n + i) (n + n) acc_name
  c_at i h = (
    (λ j k. sym (differ (n + i) j (inr (omega (arith, k))))),
    (λ j k. letters_same 99 j i (n + i) (n + j) (omega (arith, few, k)) (omega (arith, few, h)) (λ e. omega (arith, e)) (λ e. omega (arith, e))),
    sym (differ (n + i) (n + n) (inl (omega (arith, h)))),
  )

  pub acc_at : ((j : ℕ) → j < n → IsAt acc_name (n + n) j (p_name j)) × ((j : ℕ) → j < n → IsAt acc_name (n + n) (n + j) (c_name j)) × IsAt acc_name (n + n) (n + n) acc_name
  acc_at = (
    (λ j k. sym (differ (n + n) j (inr (omega (arith, k))))),
    (λ j k. sym (differ (n + n) (n + j) (inr (omega (arith, k))))),
    sym (eq-eqb (n + n) (n + n) refl),
  )

  all_at : (name : List ℕ) (m : ℕ) → ((j : ℕ) → j < n → IsAt name m j (p_name j)) × ((j : ℕ) → j < n → IsAt name m (n + j) (c_name j)) × IsAt name m (n + n) acc_name → m < n + n + 1
      → position_in (three n p_name c_name acc_name) name ≡ m
  all_at name m at less = let whole = length-three n p_name c_name acc_name in
      let found = position_in_is name 0 m (three n p_name c_name acc_name) (three_at (IsAt name m) n p_name c_name acc_name at.0 at.1 at.2) (omega arith) (omega (arith, whole, less)) in
      omega (arith, found)

  pub p_position : (i : ℕ) → i < n → position_in (three n p_name c_name acc_name) (p_name i) ≡ i
  p_position i h = all_at (p_name i) i (p_at i h) (omega (arith, h))

  pub c_position : (i : ℕ) → i < n → position_in (three n p_name c_name acc_name) (c_name i) ≡ n + i
  c_position i h = all_at (c_name i) (n + i) (c_at i h) (omega (arith, h))

  pub acc_position : position_in (three n p_name c_name acc_name) acc_name ≡ n + n
  acc_position = all_at acc_name (n + n) acc_at (omega arith)

  -- ---- and the other way round

  abbrev pub IsNamed : List ℕ → ℕ → ℕ → List ℕ → Type 0
  IsNamed name m k x = bytes_eq name x ≡ nat_eq m k

  pub p_named : (i : ℕ) → i < n → ((j : ℕ) → j < n → IsNamed (p_name i) i j (p_name j)) × ((j : ℕ) → j < n → IsNamed (p_name i) i (n + j) (c_name j)) × IsNamed (p_name i) i (n + n) acc_name
  p_named i h = (
    (λ j k. letters_same 112 i j i j (omega (arith, few, h)) (omega (arith, few, k)) (λ e. e) (λ e. e)),
    (λ j k. sym (differ i (n + j) (inl (omega (arith, h))))),
    sym (differ i (n + n) (inl (omega (arith, h)))),
  )

  pub c_named : (i : ℕ) → i < n → ((j : ℕ) → j < n → IsNamed (c_name i) (n + i) j (p_name j)) × ((j : ℕ) → j < n → IsNamed (c_name i) (n + i) (n + j) (c_name j)) × IsNamed (c_name i) (n + i) (n + n) acc_name
  c_named i h = (
    (λ j k. sym (differ (n + i) j (inr (omega (arith, k))))),
    (λ j k. letters_same 99 i j (n + i) (n + j) (omega (arith, few, h)) (omega (arith, few, k)) (λ e. omega (arith, e)) (λ e. omega (arith, e))),
    sym (differ (n + i) (n + n) (inl (omega (arith, h)))),
  )

  pub acc_named : ((j : ℕ) → j < n → IsNamed acc_name (n + n) j (p_name j)) × ((j : ℕ) → j < n → IsNamed acc_name (n + n) (n + j) (c_name j)) × IsNamed acc_name (n + n) (n + n) acc_name
  acc_named = (
    (λ j k. sym (differ (n + n) j (inr (omega (arith, k))))),
    (λ j k. sym (differ (n + n) (n + j) (inr (omega (arith, k))))),
    sym (eq-eqb (n + n) (n + n) refl),
  )
