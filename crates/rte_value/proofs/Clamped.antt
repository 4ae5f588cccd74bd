-- Clamped words lie within the limits.
use Rattle.std.proofs.Common.{ℤ, ◌≤ℤ◌, List, map, arith}
use Rattle.std.proofs.lemmas.Int.{ints, clamps}
use Rattle.std.proofs.lemmas.List.Elements.{All-map}
use Rattle.std.specs.List.{All}
use Rattle.rte_value.specs.declared.kinds.Limits.{Limits}
use Rattle.rte_value.specs.Arithmetic.{clamped, IsWithin}

pub IsWithin-clamped : (l : Limits) (x : ℤ) → l.low ≤ℤ l.high → IsWithin l (clamped l x)
IsWithin-clamped l x ordered = (omega (arith, ints, clamps), omega (arith, ints, clamps))

pub All-clamped : (l : Limits) (xs : List ℤ) → l.low ≤ℤ l.high → All (IsWithin l) (map (clamped l) xs)
All-clamped l xs ordered = All-map (IsWithin l) (clamped l) xs (λ k d below. IsWithin-clamped l _ ordered)
