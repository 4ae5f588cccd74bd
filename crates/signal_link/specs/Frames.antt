-- The frame of a value: the byte 0x52, the link's number in two bytes, the number of words in one, and each word in eight, the
-- highest byte first, in two's complement.
use Rattle.std.specs.Prelude.{ℕ, ℤ, List, [], ◌∷◌, ◌++◌, length}
use Rattle.std.specs.Int.{w64, cast_unsigned}
use Rattle.std.specs.List.{flat_map}
use Rattle.byteorder.specs.Endian.{big_bytes}

unfoldable pub word_bytes : ℤ → List ℕ
word_bytes w = big_bytes 8 (cast_unsigned w64 w)

-- what stands before the words
abbrev pub header : (link words : ℕ) → List ℕ
header k n = (0x52 ∷ big_bytes 2 k) ++ n ∷ []

abbrev pub frame : (link : ℕ) → List ℤ → List ℕ
frame k ws = header k (length ws) ++ flat_map word_bytes ws

-- a value for a link: the link's number, and the words
abbrev pub Pair : Type 0
Pair = ℕ × List ℤ

-- frames one after the other
abbrev pub frames : List Pair → List ℕ
frames ps = flat_map (λ (p : Pair). frame p.0 p.1) ps
