-- The letters of what stands in a line: which there are, and which there are not.
use Rattle.std.proofs.Common.{◌≡◌, ℕ, ◌<◌, ◌≤◌, Bool, true, false, not, ◌&&◌, ◌||◌, ◌==◌, [], ◌∷◌, length, nat_le, refl, ap, subst, arith}
use Rattle.bus_semantics.specs.Common.{list_all, and_parts, and_from, eqb-true, leb-true, lt-ltb, or_left, is_letter, is_name, is_name_part, is_in, Letters}
use Rattle.bus_semantics.specs.SoundNames as sound
use Rattle.line_fields.proofs.Joining.{all-parts, all_more, apart, lacks}
use Rattle.line_fields.proofs.Parts.{same_parts}
use Rattle.trace_reading.proofs.Cutting.{are_visible, is_visible}

-- ---- one letter

visible_in : (low high c : ℕ) → 32 < low → is_in low high c ≡ true → is_visible c ≡ true
visible_in low high c more h = let above : low ≤ c = leb-true low c (and_parts (nat_le low c) (nat_le c high) h).0 in lt-ltb 32 c (omega arith)

pub either : (a b : Bool) (P : Type 0) → (a ≡ true → P) → (b ≡ true → P) → (a || b) ≡ true → P
either true b P f g h = f refl
either false b P f g h = g h

name_part_visible : (c : ℕ) → is_name_part c ≡ true → is_visible c ≡ true
name_part_visible c h =
    either (is_letter c) (is_in 48 57 c || (c == 95)) (is_visible c ≡ true)
    (λ l. either (is_in 65 90 c) (is_in 97 122 c) (is_visible c ≡ true) (visible_in 65 90 c (omega arith)) (visible_in 97 122 c (omega arith)) l)
    (λ r. either (is_in 48 57 c) (c == 95) (is_visible c ≡ true) (visible_in 48 57 c (omega arith)) (λ e. ap is_visible (eqb-true c 95 e)) r) h

-- ---- names: what holds of each part of a name, and of the separator, holds of each letter

name_letters : (q : ℕ → Bool) → ((c : ℕ) → is_name_part c ≡ true → q c ≡ true) → (t : Letters) → is_name t ≡ true → list_all q t ≡ true
name_letters q f [] h = absurd (cc)
name_letters q f (c ∷ cs) h =
    let two = and_parts (is_letter c) (list_all is_name_part cs && nat_le (length cs) 31) h in
    let rest = and_parts (list_all is_name_part cs) (nat_le (length cs) 31) two.1 in
    and_from (q c) (list_all q cs) (f c (or_left (is_letter c) (is_in 48 57 c || (c == 95)) two.0)) (all_more is_name_part q f cs rest.0)

parts_letters : (q : ℕ → Bool) (s : ℕ) → q s ≡ true → ((c : ℕ) → is_name_part c ≡ true → q c ≡ true) → (t : Letters) → list_all is_name (sound.parts s t) ≡ true → list_all q t ≡ true
parts_letters q s h f t k = all-parts q s h is_name (name_letters q f) t (subst (λ ts. list_all is_name ts ≡ true) (same_parts s t) k)

pub name_visible : (t : Letters) → is_name t ≡ true → are_visible t ≡ true
name_visible t h = name_letters is_visible name_part_visible t h

pub pair_visible : (t : Letters) → sound.is_pair_name t ≡ true → are_visible t ≡ true
pair_visible t h = parts_letters is_visible 46 refl name_part_visible t (and_parts (length (sound.parts 46 t) == 2) (list_all is_name (sound.parts 46 t)) h).1

pub path_visible : (t : Letters) → sound.is_path t ≡ true → are_visible t ≡ true
path_visible t h = parts_letters is_visible 47 refl name_part_visible t (and_parts (is_in 1 8 (length (sound.parts 47 t))) (list_all is_name (sound.parts 47 t)) h).1

pub name_lacks : (s : ℕ) → is_name_part s ≡ false → (t : Letters) → is_name t ≡ true → lacks s t ≡ true
name_lacks s none t h = name_letters (λ c. not (c == s)) (apart is_name_part s none) t h

pub pair_lacks : (s : ℕ) → is_name_part s ≡ false → not (46 == s) ≡ true → (t : Letters) → sound.is_pair_name t ≡ true → lacks s t ≡ true
pair_lacks s none other t h = parts_letters (λ c. not (c == s)) 46 other (apart is_name_part s none) t (and_parts (length (sound.parts 46 t) == 2) (list_all is_name (sound.parts 46 t)) h).1

pub path_lacks : (s : ℕ) → is_name_part s ≡ false → not (47 == s) ≡ true → (t : Letters) → sound.is_path t ≡ true → lacks s t ≡ true
path_lacks s none other t h = parts_letters (λ c. not (c == s)) 47 other (apart is_name_part s none) t (and_parts (is_in 1 8 (length (sound.parts 47 t))) (list_all is_name (sound.parts 47 t)) h).1
