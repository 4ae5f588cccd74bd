-- How long names are that a sound plan may have.
use Rattle.std.proofs.Common.{◌≡◌, ℕ, zero, suc, ◌+◌, ◌≤◌, ◌*◌, Bool, true, false, ◌&&◌, ◌==◌, nat_le, List, [], ◌∷◌, length, refl, arith}
use Rattle.bus_semantics.specs.Common.{and_parts, eqb-true, leb-true, list_all, look, is_letter, is_name_part, is_name, is_pair_name, is_path, parts, Letters}

pub name_short : (t : Letters) → is_name t ≡ true → length t ≤ 32
name_short [] h = absurd (cc)
name_short (c ∷ cs) h =
    let rest = and_parts (is_letter c) (list_all is_name_part cs && nat_le (length cs) 31) h in
    let few = and_parts (list_all is_name_part cs) (nat_le (length cs) 31) rest.1 in
    let short = leb-true (length cs) 31 few.1 in
    omega arith

-- the length of all these texts with a separator behind each
abbrev spread : List Letters → ℕ
spread [] = 0
spread (t ∷ ts) = length t + 1 + spread ts

onto_first : (s c : ℕ) (cs : Letters) (ts : List Letters) → parts s cs ≡ ts → (c == s) ≡ false → spread ts ≡ length cs + 1 → spread (parts s (c ∷ cs)) ≡ suc (length cs) + 1
onto_first s c cs [] e f h = absurd (omega arith)
onto_first s c cs (t ∷ ts) e f h = rw (f, e) (omega arith)

one_before : (s c : ℕ) (cs : Letters) → (b : Bool) → (c == s) ≡ b → spread (parts s cs) ≡ length cs + 1 → spread (parts s (c ∷ cs)) ≡ suc (length cs) + 1
one_before s c cs true f h = rw f (omega arith)
one_before s c cs false f h = onto_first s c cs (parts s cs) refl f h

-- parts with their separators are the text
spread-parts : (s : ℕ) (t : Letters) → spread (parts s t) ≡ length t + 1
spread-parts s [] = refl
spread-parts s (c ∷ cs) = one_before s c cs (c == s) refl (spread-parts s cs)

spread_names : (ts : List Letters) → list_all is_name ts ≡ true → spread ts ≤ 33 * length ts
spread_names [] h = omega arith
spread_names (t ∷ ts) h =
    let both = and_parts (is_name t) (list_all is_name ts) h in
    let short = name_short t both.0 in
    let rest = spread_names ts both.1 in
    omega arith

pub pair_short : (t : Letters) → is_pair_name t ≡ true → length t ≤ 65
pair_short t h =
    let both = and_parts (length (parts 46 t) == 2) (list_all is_name (parts 46 t)) h in
    let two = eqb-true (length (parts 46 t)) 2 both.0 in
    let names = spread_names (parts 46 t) both.1 in
    let whole = spread-parts 46 t in
    omega arith

pub path_short : (t : Letters) → is_path t ≡ true → length t ≤ 263
path_short t h =
    let both = and_parts (nat_le 1 (length (parts 47 t)) && nat_le (length (parts 47 t)) 8) (list_all is_name (parts 47 t)) h in
    let eight = leb-true (length (parts 47 t)) 8 (and_parts (nat_le 1 (length (parts 47 t))) (nat_le (length (parts 47 t)) 8) both.0).1 in
    let names = spread_names (parts 47 t) both.1 in
    let whole = spread-parts 47 t in
    omega arith

-- what is looked up among what is tested is as short as the test says
pub look_short : {X : Type 0} (test : X → Bool) (f : X → Letters) (n : ℕ) → ((x : X) → test x ≡ true → length (f x) ≤ n)
    → (xs : List X) → list_all test xs ≡ true → (i : ℕ) → length (look xs i f []) ≤ n
look_short test f n short [] h i = omega arith
look_short test f n short (x ∷ xs) h zero = short x (and_parts (test x) (list_all test xs) h).0
look_short test f n short (x ∷ xs) h (suc i) = look_short test f n short xs (and_parts (test x) (list_all test xs) h).1 i
