-- Which words begin with given bytes: those of one interval, in which no sign changes.
use Rattle.std.proofs.Common.{◌≡◌, ◌≤◌, ◌<◌, ◌↔◌, ℕ, ◌+◌, ◌*◌, ◌-◌, ◌/◌, ◌^◌, ℤ, pos, negsuc, ◌≤ℤ◌, Bool, true, false, ◌&&◌, take, refl, sym, ap, ◌∙◌, arith, pow-add, subst}
use Rattle.std.proofs.Math.Nat.{div-eq_of_lt-le, div-mul-le_self, lt-div-mul-add, lt_of_mul-lt-mul_right, mul-le-mul_right, add-mul, one-le-pow, div-lt_iff_lt-mul, pow-le-pow_right}
use Rattle.std.proofs.lemmas.Bool.{and_from, and_parts}
use Rattle.byteorder.specs.Endian.{big_bytes}
use Rattle.std.proofs.lemmas.Int.{ints, of_z-to_z, to_z-of_z}
use Rattle.std.specs.Int.{w64, cast_signed, cast_unsigned}
use Rattle.std.specs.Int.RustNames.{FitsSigned, int_le}
use Rattle.rte_value.specs.declared.kinds.Limits.{Limits}
use Rattle.signal_link.specs.Common.{WordHead, word_bytes, IsHead, IsOpen, head_bytes}
use Rattle.signal_link.proofs.Bytes.{bytes_are_one, take-word_bytes}

-- the number of the least word and of the greatest one, whose first bytes are these
abbrev pub span : WordHead → ℕ
span h = 256 ^ (8 - h.count)

abbrev pub least : WordHead → ℕ
least h = h.number * span h

abbrev pub greatest : WordHead → ℕ
greatest h = least h + (span h - 1)

pub span_pos : (h : WordHead) → 0 < span h
span_pos h = let p = one-le-pow (8 - h.count) 256 (omega arith) in omega arith

-- the greatest still is a number of 64 bits
pub greatest_fits : (h : WordHead) → IsHead h → greatest h < 2 ^ 64
greatest_fits h is =
    let pos = span_pos h in
    let whole : 256 ^ h.count * span h ≡ 2 ^ 64 =
    sym (pow-add 256 h.count (8 - h.count)) ∙ (let all : h.count + (8 - h.count) ≡ 8 = (let few = is.few in omega arith) in ap (λ (n : ℕ). 256 ^ n) all) in
    let more : (h.number + 1) * span h ≤ 256 ^ h.count * span h = mul-le-mul_right (span h) (let small = is.small in omega arith) in
    let expand : (h.number + 1) * span h ≡ least h + 1 * span h = add-mul h.number 1 (span h) in
    omega arith

-- both have the same sign
pub same_half : (h : WordHead) → 1 ≤ h.count → h.count ≤ 8 → least h < 2 ^ 63 → greatest h < 2 ^ 63
same_half h some few low =
    let pos = span_pos h in
    let parts : 256 ^ (h.count - 1) * span h ≡ 256 ^ 7 =
    sym (pow-add 256 (h.count - 1) (8 - h.count)) ∙ (let all : (h.count - 1) + (8 - h.count) ≡ 7 = omega arith in ap (λ (n : ℕ). 256 ^ n) all) in
    let half : (128 * 256 ^ (h.count - 1)) * span h ≡ 2 ^ 63 = omega (arith, parts) in
    let below : h.number < 128 * 256 ^ (h.count - 1) = lt_of_mul-lt-mul_right (span h) (omega (arith, half)) in
    let more : (h.number + 1) * span h ≤ (128 * 256 ^ (h.count - 1)) * span h = mul-le-mul_right (span h) (omega (arith, below)) in
    let expand : (h.number + 1) * span h ≡ least h + 1 * span h = add-mul h.number 1 (span h) in
    omega (arith, half)

-- a byte more fits 64 bits
pub pushed_fits : (h : WordHead) (b : ℕ) → IsHead h → h.count < 8 → b < 256 → h.number * 256 + b < 2 ^ 64
pushed_fits h b is room byte =
    let seven : h.count ≤ 7 = omega arith in
    let few : 256 ^ h.count ≤ 256 ^ 7 = pow-le-pow_right {n = 256} (omega arith) seven in
    let small = is.small in
    omega (arith, few)

pub span_fits : (h : WordHead) → 1 ≤ h.count → span h < 2 ^ 64
span_fits h some =
    let seven : 8 - h.count ≤ 7 = omega arith in
    let few : 256 ^ (8 - h.count) ≤ 256 ^ 7 = pow-le-pow_right {n = 256} (omega arith) seven in
    omega (arith, few)

-- ---- words in order

pub le_of : (a b : ℤ) → int_le a b ≡ true → a ≤ℤ b
le_of a b e = grind (arith, ints)

le_to : (a b : ℤ) → a ≤ℤ b → int_le a b ≡ true
le_to a b e = grind (arith, ints)

not_le : (a b : ℤ) → int_le a b ≡ false → b ≤ℤ a
not_le a b e = grind (arith, ints)

pub le_self : (a : ℤ) → int_le a a ≡ true
le_self a = grind (arith, ints)

pub fits_between : (a b z : ℤ) → FitsSigned w64 a → FitsSigned w64 b → a ≤ℤ z → z ≤ℤ b → FitsSigned w64 z
fits_between a (pos m) (pos n) fa fb low high = record { sfits = omega (arith, ints) }
fits_between a (negsuc m) (pos n) fa fb low high = absurd (omega (arith, ints))
fits_between (pos k) b (negsuc n) fa fb low high = absurd (omega (arith, ints))
fits_between (negsuc k) b (negsuc n) fa fb low high = record { sfits = omega (arith, ints) }

-- numbers of one half are in the order of their words
ordered : (a b : ℕ) → a ≤ b → b < 2 ^ 64 → (a < 2 ^ 63 → b < 2 ^ 63) → cast_signed w64 a ≤ℤ cast_signed w64 b
ordered a b le fits half = grind (arith, ints)

between_low : (a b : ℕ) (z : ℤ) → FitsSigned w64 z → a ≤ b → b < 2 ^ 64 → (a < 2 ^ 63 → b < 2 ^ 63) → cast_signed w64 a ≤ℤ z → z ≤ℤ cast_signed w64 b
    → a ≤ cast_unsigned w64 z
between_low a b z f le fits half low high = grind (arith, ints)

between_high : (a b : ℕ) (z : ℤ) → FitsSigned w64 z → a ≤ b → b < 2 ^ 64 → (a < 2 ^ 63 → b < 2 ^ 63) → cast_signed w64 a ≤ℤ z → z ≤ℤ cast_signed w64 b
    → cast_unsigned w64 z ≤ b
between_high a b z f le fits half low high = grind (arith, ints)

pub unsigned_fits : (z : ℤ) → FitsSigned w64 z → cast_unsigned w64 z < 2 ^ 64
unsigned_fits z f = omega (arith, ints)

-- ---- words that begin so

-- a word whose number lies in the interval begins with the bytes
begins : (h : WordHead) (w : ℤ) → IsHead h → least h ≤ cast_unsigned w64 w → cast_unsigned w64 w ≤ greatest h
    → take h.count (word_bytes w) ≡ head_bytes h
begins h w is low high =
    let expand : (h.number + 1) * span h ≡ least h + 1 * span h = add-mul h.number 1 (span h) in
    let pos = span_pos h in
    let quotient : cast_unsigned w64 w / span h ≡ h.number = div-eq_of_lt-le (span h) low (omega arith) in
    take-word_bytes h.count w is.few ∙ ap (big_bytes h.count) quotient

-- the number of a word that begins with the bytes lies in the interval
lies : (h : WordHead) (w : ℤ) → IsHead h → FitsSigned w64 w → take h.count (word_bytes w) ≡ head_bytes h
    → (least h ≤ cast_unsigned w64 w) × (cast_unsigned w64 w ≤ greatest h)
lies h w is fits same =
    let u = cast_unsigned w64 w in
    let pos = span_pos h in
    let whole : 256 ^ h.count * span h ≡ 2 ^ 64 =
    sym (pow-add 256 h.count (8 - h.count)) ∙ (let all : h.count + (8 - h.count) ≡ 8 = (let few = is.few in omega arith) in ap (λ (n : ℕ). 256 ^ n) all) in
    let below : u < 256 ^ h.count * span h = (let f = unsigned_fits w fits in omega arith) in
    let top : u / span h < 256 ^ h.count = (div-lt_iff_lt-mul {k = span h} {x = u} {y = 256 ^ h.count} pos).1 below in
    let quotient : u / span h ≡ h.number = bytes_are_one h.count (u / span h) h.number top is.small (sym (take-word_bytes h.count w is.few) ∙ same) in
    let floor : h.number * span h ≤ u = (let e = ap (λ (q : ℕ). q * span h) quotient in let d = div-mul-le_self u (span h) in omega (arith, e, d)) in
    let ceil : u < h.number * span h + span h = (let e = ap (λ (q : ℕ). q * span h) quotient in let d = lt-div-mul-add {a = u} {b = span h} pos in omega (arith, e, d)) in
    (floor, omega arith)

module _ (l : Limits) (h : WordHead) (is : IsHead h) (some : 1 ≤ h.count) (low_fits : FitsSigned w64 l.low) (high_fits : FitsSigned w64 l.high) where
  half : least h < 2 ^ 63 → greatest h < 2 ^ 63
  half = same_half h some is.few

  reached : (b : Bool) → int_le l.low (cast_signed w64 (least h)) ≡ b → int_le l.low l.high ≡ true
      → int_le l.low (cast_signed w64 (greatest h)) ≡ true → int_le (cast_signed w64 (least h)) l.high ≡ true → IsOpen l h
  reached true first order low high =
      let same : cast_unsigned w64 (cast_signed w64 (least h)) ≡ least h = of_z-to_z w64 (least h) (let f = greatest_fits h is in omega arith) in
      record {
        word = cast_signed w64 (least h);
        within = and_from _ _ first high;
        is = begins h (cast_signed w64 (least h)) is (omega arith) (omega arith);
      }
  reached false first order low high =
      let from = not_le l.low (cast_signed w64 (least h)) first in
      let to = le_of l.low (cast_signed w64 (greatest h)) low in
      let some_span : least h ≤ greatest h = omega arith in
      record {
        word = l.low;
        within = and_from _ _ (le_self l.low) order;
        is = begins h l.low is
            (between_low (least h) (greatest h) l.low low_fits some_span (greatest_fits h is) half from to)
            (between_high (least h) (greatest h) l.low low_fits some_span (greatest_fits h is) half from to);
      }

  -- some word within the limits begins so exactly where the interval reaches them
  pub open_where_reached : int_le l.low l.high ≡ true → (b : Bool)
      → b ≡ (int_le l.low (cast_signed w64 (greatest h)) && int_le (cast_signed w64 (least h)) l.high)
      → (b ≡ true) ↔ IsOpen l h
  open_where_reached order b e = (
    λ t. let both = and_parts _ _ (sym e ∙ t) in reached (int_le l.low (cast_signed w64 (least h))) refl order both.0 both.1,
    λ o.
        let parts = and_parts _ _ o.within in
        let low = le_of l.low o.word parts.0 in
        let high = le_of o.word l.high parts.1 in
        let fits = fits_between l.low l.high o.word low_fits high_fits low high in
        let in_it = lies h o.word is fits o.is in
        let back : cast_signed w64 (cast_unsigned w64 o.word) ≡ o.word = to_z-of_z w64 o.word fits in
        let most = greatest_fits h is in
        let of_half = half in
        let up : o.word ≤ℤ cast_signed w64 (greatest h) =
        subst (λ (z : ℤ). z ≤ℤ cast_signed w64 (greatest h)) back (ordered (cast_unsigned w64 o.word) (greatest h) in_it.1 most (λ s. of_half (omega arith))) in
        let down : cast_signed w64 (least h) ≤ℤ o.word =
        subst (λ (z : ℤ). cast_signed w64 (least h) ≤ℤ z) back (ordered (least h) (cast_unsigned w64 o.word) in_it.0 (omega arith) (λ s. let m = of_half s in omega arith)) in
        e ∙ and_from _ _ (le_to l.low (cast_signed w64 (greatest h)) (omega (arith, ints))) (le_to (cast_signed w64 (least h)) l.high (omega (arith, ints))),
  )
