-- How large the marks of some digits are.
use Rattle.std.proofs.Common.{◌≡◌, ℕ, suc, ◌+◌, ◌*◌, ◌^◌, ◌<◌, ◌≤◌, Bool, true, false, ◌==◌, cond, [], ◌∷◌, length, drop, arith}
use Rattle.std.proofs.Math.Nat.{pow-succ'}
use Rattle.std.proofs.Math.Pow.{pow_mono}
use Rattle.bus_semantics.specs.Common.{length-drop, Letters}
use Rattle.trace_reading.specs.Lists.{marks_in}

pub marks_below : (t : Letters) → marks_in t < 2 ^ length t
marks_below [] = omega arith
marks_below (c ∷ cs) = by_digit (c == 49) (2 ^ length cs) (2 ^ suc (length cs)) (pow-succ' 2 (length cs)) (marks_below cs)
  where
    by_digit : (b : Bool) (half whole : ℕ) → whole ≡ 2 * half → marks_in cs < half → cond b 1 0 + 2 * marks_in cs < whole
    by_digit true half whole double less = omega (arith, double, less)
    by_digit false half whole double less = omega (arith, double, less)

-- fifteen digits leave room for one more
pub marks_small : (t : Letters) → length t ≤ 15 → marks_in t < 32768
marks_small t few =
    let most : 2 ^ length t ≤ 2 ^ 15 = pow_mono few in
    omega (arith, marks_below t, most)

-- the digits behind a place of sixteen
pub behind_small : (t : Letters) (left : ℕ) → length t ≤ 16 → 0 < left → left ≤ length t → marks_in (drop left t) < 32768
behind_small t left few some within = marks_small (drop left t) (omega (arith, length-drop left t))
