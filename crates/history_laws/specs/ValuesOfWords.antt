-- The value of at most 16 words.
use Rattle.std.proofs.Common.{◌≡◌, ◌-◌, ℤ, pos, true, sym, ap, List, length, replicate, take}
use Rattle.std.specs.Prelude.{nat_le}
use Rattle.bus_semantics.specs.Common.{leb-true, take-append_seam, Value, padded, words_of}

pub value_of : (ws : List ℤ) → nat_le (length ws) 16 ≡ true → (v : Value) × (words_of v ≡ ws)
value_of ws few = (record { words = padded ws; len = length ws; short = leb-true (length ws) 16 few; padded = ap padded (sym whole) }, whole)
  where
    whole : take (length ws) (padded ws) ≡ ws
    whole = take-append_seam ws (replicate (16 - length ws) (pos 0))
