-- The highest bytes of a number are those of its quotient.
use Rattle.std.proofs.Common.{◌≡◌, ◌≤◌, ◌<◌, ℕ, zero, suc, ◌+◌, ◌*◌, ◌-◌, ◌/◌, ◌%◌, ◌^◌, ℤ, List, [], ◌∷◌, ◌++◌, length, take, refl, sym, ap, ◌∙◌, arith, pow-add}
use Rattle.std.proofs.Math.Nat.{div-one, div-div-eq-div-mul}
use Rattle.std.proofs.lemmas.List.{take_at}
use Rattle.std.proofs.lemmas.Nat.{div-mul-add, mod-mul-add}
use Rattle.std.specs.Int.{w64, byte_at, cast_unsigned}
use Rattle.byteorder.specs.Endian.{big_bytes, big_from}
use Rattle.byteorder.specs.Numbers.{big_number-reads_back, length-bytes_high_first}
use Rattle.signal_link.specs.Frames.{word_bytes}

byte_at-pow : (k x : ℕ) → byte_at k x ≡ x / 256 ^ k % 256
byte_at-pow zero x = ap (λ (y : ℕ). y % 256) (sym (div-one x))
byte_at-pow (suc k) x = refl

byte_at-above : (j m x : ℕ) → byte_at (j + m) x ≡ byte_at j (x / 256 ^ m)
byte_at-above j m x =
    byte_at-pow (j + m) x
    ∙ ap (λ (p : ℕ). x / p % 256) (ap (λ (n : ℕ). 256 ^ n) (omega arith) ∙ pow-add 256 m j)
    ∙ ap (λ (y : ℕ). y % 256) (sym (div-div-eq-div-mul x (256 ^ m) (256 ^ j)))
    ∙ sym (byte_at-pow j (x / 256 ^ m))

-- the first j of j + m bytes are those of the number without its m lowest bytes
pub bytes_split : (j m x : ℕ) → big_bytes (j + m) x ≡ big_bytes j (x / 256 ^ m) ++ big_bytes m x
bytes_split zero m x = ap (λ (n : ℕ). big_bytes n x) (omega arith)
bytes_split (suc j) m x =
    let more : suc j + m ≡ suc (j + m) = omega arith in
    ap (λ (n : ℕ). big_bytes n x) more
    ∙ ap (λ (b : ℕ). b ∷ big_bytes (j + m) x) (byte_at-above j m x)
    ∙ ap (λ (bs : List ℕ). byte_at j (x / 256 ^ m) ∷ bs) (bytes_split j m x)

-- numbers of the same bytes are the same
pub bytes_are_one : (n x y : ℕ) → x < 256 ^ n → y < 256 ^ n → big_bytes n x ≡ big_bytes n y → x ≡ y
bytes_are_one n x y hx hy same =
    sym (big_number-reads_back n x [] hx)
    ∙ ap (λ (bs : List ℕ). big_from 0 n (bs ++ [])) same
    ∙ big_number-reads_back n y [] hy

pub length-word_bytes : (w : ℤ) → length (word_bytes w) ≡ 8
unfolding word_bytes
length-word_bytes w = length-bytes_high_first 8 (cast_unsigned w64 w)

-- the first bytes of a word
pub take-word_bytes : (c : ℕ) (w : ℤ) → c ≤ 8 → take c (word_bytes w) ≡ big_bytes c (cast_unsigned w64 w / 256 ^ (8 - c))
unfolding word_bytes
take-word_bytes c w few =
    let all : c + (8 - c) ≡ 8 = omega arith in
    let whole : big_bytes 8 (cast_unsigned w64 w) ≡ big_bytes c (cast_unsigned w64 w / 256 ^ (8 - c)) ++ big_bytes (8 - c) (cast_unsigned w64 w) =
    ap (λ (n : ℕ). big_bytes n (cast_unsigned w64 w)) (sym all) ∙ bytes_split c (8 - c) (cast_unsigned w64 w) in
    ap (λ (bs : List ℕ). take c bs) whole ∙ take_at _ _ c (length-bytes_high_first c (cast_unsigned w64 w / 256 ^ (8 - c)))

-- one byte more
pub bytes_pushed : (c n b : ℕ) → b < 256 → big_bytes (c + 1) (n * 256 + b) ≡ big_bytes c n ++ b ∷ []
bytes_pushed c n b small =
    bytes_split c 1 (n * 256 + b)
    ∙ ap (λ (q : ℕ). big_bytes c q ++ big_bytes 1 (n * 256 + b)) (div-mul-add n 256 b small)
    ∙ ap (λ (r : ℕ). big_bytes c n ++ r ∷ []) (mod-mul-add n 256 b small)
