-- The value of these words, if there are at most 16.
use Rattle.std.specs.Prelude.{◌≡◌, ◌-◌, ℤ, pos, List, length, replicate, Bool, true, false, nat_le}
use Rattle.std.proofs.Common.{refl, sym, ap}
use Rattle.bus_semantics.specs.Common.{take-append_seam, leb-true, Value, padded, empty_value}

abbrev pub sized_value : (ws : List ℤ) → (short : Bool) → nat_le (length ws) 16 ≡ short → Value
sized_value ws true short = record { words = padded ws; len = length ws; short = leb-true (length ws) 16 short; padded = ap padded (sym (take-append_seam ws (replicate (16 - length ws) (pos 0)))) }
sized_value ws false long = empty_value

abbrev pub value_of : List ℤ → Value
value_of ws = sized_value ws (nat_le (length ws) 16) refl
