-- The numbers of keys: a key that is among some has the position of its first one, and two such keys of one number are the same.
use Rattle.std.proofs.Common.{◌≡◌, ℕ, zero, suc, ◌+◌, ◌≤◌, List, [], ◌∷◌, Bool, true, false, cond, ◌&&◌, nat_eq, Option, Some, None, option_map, unwrap_or, inl, inr, ⊎_elim, refl, sym, ap}
use Rattle.std.proofs.Common.{subst, ◌∙◌, true≢false, arith, slice_get}
use Rattle.bus_semantics.specs.Common.{and_from, and_parts, cases_eq, eq-eqb, eqb-true, ne_eqb, position_from, option_eq}
use Rattle.plan_definitions.specs.Common.{End, Among, Site, end_at, end_of, same_end, Key, end_key, key_of, number_in, same_key, same_pair}

pub same_number : (a b : Option ℕ) → option_eq nat_eq a b ≡ true → a ≡ b
same_number None None h = refl
same_number None (Some y) h = cc
same_number (Some x) None h = cc
same_number (Some x) (Some y) h = ap (λ n. Some n) (eqb-true x y h)

pub same_number_refl : (a : Option ℕ) → option_eq nat_eq a a ≡ true
same_number_refl None = refl
same_number_refl (Some x) = eq-eqb x x refl

pub nat_eq_sym : (a b : ℕ) → nat_eq a b ≡ nat_eq b a
nat_eq_sym a b = ⊎_elim (λ e. eq-eqb a b e ∙ sym (eq-eqb b a (sym e))) (λ ne. ne_eqb a b ne ∙ sym (ne_eqb b a (λ e. ne (sym e)))) (cases_eq a b)

pub option_eq_sym : (a b : Option ℕ) → option_eq nat_eq a b ≡ option_eq nat_eq b a
option_eq_sym None None = refl
option_eq_sym None (Some b) = refl
option_eq_sym (Some a) None = refl
option_eq_sym (Some a) (Some b) = nat_eq_sym a b

pub same_pair_is : (a b : ℕ × ℕ) → same_pair a b ≡ true → a ≡ b
same_pair_is a b h = let parts = and_parts (nat_eq a.0 b.0) (nat_eq a.1 b.1) h in (λ j. (eqb-true a.0 b.0 parts.0 j, eqb-true a.1 b.1 parts.1 j))

pub same_key_is : (a b : Key) → same_key a b ≡ true → a ≡ b
same_key_is a b h =
    let outer = and_parts (option_eq nat_eq a.0 b.0 && option_eq nat_eq a.1 b.1) (nat_eq a.2 b.2) h in
    let inner = and_parts (option_eq nat_eq a.0 b.0) (option_eq nat_eq a.1 b.1) outer.0 in
    (λ j. (same_number a.0 b.0 inner.0 j, same_number a.1 b.1 inner.1 j, eqb-true a.2 b.2 outer.1 j))

pub same_key_refl : (a : Key) → same_key a a ≡ true
same_key_refl a = and_from (option_eq nat_eq a.0 a.0 && option_eq nat_eq a.1 a.1) (nat_eq a.2 a.2)
    (and_from (option_eq nat_eq a.0 a.0) (option_eq nat_eq a.1 a.1) (same_number_refl a.0) (same_number_refl a.1)) (eq-eqb a.2 a.2 refl)

pub same_end_is : (a b : End) → same_end a b ≡ true → a ≡ b
same_end_is a b h =
    let outer = and_parts (option_eq nat_eq a.instance b.instance && nat_eq a.port b.port) (nat_eq a.element b.element) h in
    let inner = and_parts (option_eq nat_eq a.instance b.instance) (nat_eq a.port b.port) outer.0 in
    (λ j. record { instance = same_number a.instance b.instance inner.0 j; port = eqb-true a.port b.port inner.1 j; element = eqb-true a.element b.element outer.1 j })

pub same_end_refl : (a : End) → same_end a a ≡ true
same_end_refl a = (λ j. (same_number_refl a.instance j && eq-eqb a.port a.port refl j) && eq-eqb a.element a.element refl j)

-- ---- positions

abbrev First : ℕ → Key → List Key → Option ℕ → Type 0
First i k keys None = Among k keys → ⊥
First i k keys (Some m) = (n : ℕ) × (m ≡ i + n) × (slice_get keys n ≡ Some k)

first_is : (i : ℕ) (k : Key) (keys : List Key) → First i k keys (position_from (same_key k) i keys)
first_is i k [] = λ none. none
first_is i k (x ∷ keys) = by (same_key k x) refl (position_from (same_key k) (i + 1) keys) (first_is (i + 1) k keys)
  where
    by : (b : Bool) → same_key k x ≡ b → (o : Option ℕ) → First (i + 1) k keys o → First i k (x ∷ keys) (cond b (Some i) o)
    by true is o rest = (0, omega arith, ap (λ z. Some z) (sym (same_key_is k x is)))
    by false is None rest = λ among. other among
      where
        other : Among k (x ∷ keys) → ⊥
        other (inl e) = true≢false (sym (same_key_refl k) ∙ ap (same_key k) e ∙ is)
        other (inr later) = rest later
    by false is (Some m) rest = (suc rest.0, omega (arith, rest.1), rest.2)

pub number_is : (keys : List Key) (k : Key) → Among k keys → slice_get keys (number_in keys k) ≡ Some k
number_is keys k among = by (position_from (same_key k) 0 keys) (first_is 0 k keys)
  where
    by : (o : Option ℕ) → First 0 k keys o → slice_get keys (unwrap_or o 0) ≡ Some k
    by None none = absurd (none among)
    by (Some m) p = let e : p.0 ≡ m = omega (arith, p.1) in subst (λ n. slice_get keys n ≡ Some k) e p.2

pub number_same : (keys : List Key) (a b : Key) → Among a keys → Among b keys → number_in keys a ≡ number_in keys b → a ≡ b
number_same keys a b h g same =
    let x = number_is keys a h in
    let y : slice_get keys (number_in keys a) ≡ Some b = subst (λ n. slice_get keys n ≡ Some b) (sym same) (number_is keys b g) in
    cc

-- no later than the key itself
low : (i : ℕ) (k : Key) (keys : List Key) (n m : ℕ) → slice_get keys n ≡ Some k → position_from (same_key k) i keys ≡ Some m → m ≤ i + n
low i k [] n m is found = cc
low i k (x ∷ keys) n m is found = by (same_key k x) refl n is found (λ o h g. low (i + 1) k keys o m h g)
  where
    by : (b : Bool) → same_key k x ≡ b → (n : ℕ) → slice_get (x ∷ keys) n ≡ Some k → cond b (Some i) (position_from (same_key k) (i + 1) keys) ≡ Some m
        → ((o : ℕ) → slice_get keys o ≡ Some k → position_from (same_key k) (i + 1) keys ≡ Some m → m ≤ i + 1 + o) → m ≤ i + n
    by true same n h g rest = let e : i ≡ m = cc in omega arith
    by false same zero h g rest = let e : x ≡ k = cc in absurd (true≢false (sym (same_key_refl k) ∙ ap (same_key k) (sym e) ∙ same))
    by false same (suc n) h g rest = let le = rest n h g in omega arith

pub number_low : (keys : List Key) (k : Key) (n : ℕ) → slice_get keys n ≡ Some k → number_in keys k ≤ n
number_low keys k n is = by (position_from (same_key k) 0 keys) refl
  where
    by : (o : Option ℕ) → position_from (same_key k) 0 keys ≡ o → unwrap_or o 0 ≤ n
    by None none = omega arith
    by (Some m) some = let le = low 0 k keys n m is some in omega arith

-- ---- ends

pub key_is : (s : Site) (e : End) → end_of s ≡ Some e → end_key e ≡ key_of s
key_is s e is = by s.port refl is
  where
    by : (o : Option ℕ) → s.port ≡ o → option_map (λ port. end_at s.owner port s.item) o ≡ Some e → end_key e ≡ key_of s
    by None none h = cc
    by (Some k) some h = let same : end_at s.owner k s.item ≡ e = cc in sym (ap end_key same) ∙ (λ j. (s.owner, sym some j, s.item))
