-- Words within limits: of a base type's range, and 0 clamped to them.
use Rattle.std.proofs.Common.{◌≡◌, ℕ, zero, suc, ◌≤◌, List, [], length, replicate, Bool, true, cond, ◌&&◌, ◌||◌, ◌==◌, ℤ, pos, negsuc, int_le, int_lt, Option, Some, None, unwrap_or, refl}
use Rattle.std.proofs.Common.{ap, ◌∙◌, arith}
use Rattle.bus_semantics.specs.Common.{and_from, and_parts, eq-eqb, eqb-true, le-leb, or_left, or_right, list_all, int_eq, Limits, clamped, same_words, limits_fit, zeros}
use Rattle.std.proofs.lemmas.Bool.Decides.{Decides-int_eq}
use Rattle.std.proofs.lemmas.Int.{ints}
use Rattle.plan_definitions.specs.Common.{BaseType, DataType, keeps_range, range_of, is_within, held, zeros as type_zeros}
use Rattle.description_types.specs.declared.base_type.BaseType.TheVariants.{Boolean, Uint8, Uint16, Uint32, Sint8, Sint16, Sint32}
use Rattle.description_types.specs.Initials.{fits}

pub le_then : (a b c : ℤ) → int_le a b ≡ true → int_le b c ≡ true → int_le a c ≡ true
le_then a b c x y = grind (arith, ints)

le_clamped : (low high : ℤ) → int_le low high ≡ true → (int_le low (cond (int_lt (cond (int_lt high (pos 0)) high (pos 0)) low) low (cond (int_lt high (pos 0)) high (pos 0))) ≡ true)
le_clamped low high h = grind (arith, ints)

clamped_le : (low high : ℤ) → int_le low high ≡ true → (int_le (cond (int_lt (cond (int_lt high (pos 0)) high (pos 0)) low) low (cond (int_lt high (pos 0)) high (pos 0))) high ≡ true)
clamped_le low high h = grind (arith, ints)

clamped_within : (l : Limits) → int_le l.low l.high ≡ true → is_within l (clamped l (pos 0)) ≡ true
clamped_within l h = and_from (int_le l.low (clamped l (pos 0))) (int_le (clamped l (pos 0)) l.high) (le_clamped l.low l.high h) (clamped_le l.low l.high h)

-- ---- a base type's range

abbrev in_range : ℤ → ℤ → Limits → Bool
in_range low high l = int_le low l.low && int_le l.high high

wider : (low high least most : ℤ) (l : Limits) → int_le least low ≡ true → int_le high most ≡ true → in_range low high l ≡ true → in_range least most l ≡ true
wider low high least most l a b h = let p = and_parts (int_le low l.low) (int_le l.high high) h in
    and_from (int_le least l.low) (int_le l.high most) (le_then least low l.low a p.0) (le_then l.high high most p.1 b)

pub range_fits : (t : DataType) → keeps_range t ≡ true → limits_fit t.limits ≡ true
range_fits t h = let p = and_parts (int_le t.limits.low t.limits.high) (int_le (range_of t.base).low t.limits.low && int_le t.limits.high (range_of t.base).high) h in
    and_from (int_le t.limits.low t.limits.high) (in_range (pos 0) (pos 4294967295) t.limits || in_range (negsuc 2147483647) (pos 2147483647) t.limits) p.0 (by t.base p.1)
  where
    unsigned : (high : ℤ) → int_le high (pos 4294967295) ≡ true → in_range (pos 0) high t.limits ≡ true → (in_range (pos 0) (pos 4294967295) t.limits || in_range (negsuc 2147483647) (pos 2147483647) t.limits) ≡ true
    unsigned high b q = or_left (in_range (pos 0) (pos 4294967295) t.limits) (in_range (negsuc 2147483647) (pos 2147483647) t.limits) (wider (pos 0) high (pos 0) (pos 4294967295) t.limits refl b q)

    signed : (low high : ℤ) → int_le (negsuc 2147483647) low ≡ true → int_le high (pos 2147483647) ≡ true → in_range low high t.limits ≡ true → (in_range (pos 0) (pos 4294967295) t.limits || in_range (negsuc 2147483647) (pos 2147483647) t.limits) ≡ true
    signed low high a b q = or_right (in_range (pos 0) (pos 4294967295) t.limits) (in_range (negsuc 2147483647) (pos 2147483647) t.limits) (wider low high (negsuc 2147483647) (pos 2147483647) t.limits a b q)

    by : (base : BaseType) → in_range (range_of base).low (range_of base).high t.limits ≡ true → (in_range (pos 0) (pos 4294967295) t.limits || in_range (negsuc 2147483647) (pos 2147483647) t.limits) ≡ true
    by Boolean q = unsigned (pos 1) refl q
    by Uint8 q = unsigned (pos 255) refl q
    by Uint16 q = unsigned (pos 65535) refl q
    by Uint32 q = unsigned (pos 4294967295) refl q
    by Sint8 q = signed (negsuc 127) (pos 127) refl refl q
    by Sint16 q = signed (negsuc 32767) (pos 32767) refl refl q
    by Sint32 q = signed (negsuc 2147483647) (pos 2147483647) refl refl q

-- ---- initial words

same_refl : (x : ℤ) → int_eq x x ≡ true
same_refl x = (Decides-int_eq x x).1 refl

zeros_same : (l : Limits) (n : ℕ) → same_words (replicate n (clamped l (pos 0))) (zeros l n) ≡ true
zeros_same l zero = refl
zeros_same l (suc n) = and_from (int_eq (clamped l (pos 0)) (clamped l (pos 0))) (same_words (replicate n (clamped l (pos 0))) (zeros l n)) (same_refl (clamped l (pos 0))) (zeros_same l n)

zeros_fit : (l : Limits) (n : ℕ) → int_le l.low l.high ≡ true → list_all (is_within l) (replicate n (clamped l (pos 0))) ≡ true
zeros_fit l zero h = refl
zeros_fit l (suc n) h = and_from (is_within l (clamped l (pos 0))) (list_all (is_within l) (replicate n (clamped l (pos 0)))) (clamped_within l h) (zeros_fit l n h)

zeros_count : (l : Limits) (n : ℕ) → length (replicate n (clamped l (pos 0))) ≡ n
zeros_count l zero = refl
zeros_count l (suc n) = ap (λ m. suc m) (zeros_count l n)

held_is : (ws : List ℤ) → length ws ≤ 16 → held ws ≡ ws
held_is ws few = ap (λ b. cond b ws []) (le-leb (length ws) 16 few)

module _ (t : DataType) (few : t.words ≤ 16) (ordered : int_le t.limits.low t.limits.high ≡ true) where
  zeros_held : held (type_zeros (Some t)) ≡ type_zeros (Some t)
  zeros_held = held_is (type_zeros (Some t)) (let n = zeros_count t.limits t.words in omega arith)

  -- the words that are given, or else zeros
  pub initial_fits : (given : Option (List ℤ)) → ((ws : List ℤ) → given ≡ Some ws → fits t ws ≡ true) → fits t (held (unwrap_or given (type_zeros (Some t)))) ≡ true
  initial_fits None each = ap (fits t) zeros_held ∙ and_from (length (type_zeros (Some t)) == t.words) (list_all (is_within t.limits) (type_zeros (Some t)))
      (eq-eqb (length (type_zeros (Some t))) t.words (zeros_count t.limits t.words)) (zeros_fit t.limits t.words ordered)
  initial_fits (Some ws) each =
      let h = each ws refl in
      let p = and_parts (length ws == t.words) (list_all (is_within t.limits) ws) h in
      let n = eqb-true (length ws) t.words p.0 in
      ap (fits t) (held_is ws (omega arith)) ∙ h

  pub none_zeros : same_words (held (type_zeros (Some t))) (zeros t.limits t.words) ≡ true
  none_zeros = ap (λ ws. same_words ws (zeros t.limits t.words)) zeros_held ∙ zeros_same t.limits t.words
