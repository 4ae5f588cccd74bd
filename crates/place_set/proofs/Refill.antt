-- What a vector is after its words were written.
use Rattle.std.proofs.Common.{◌≡◌, ℕ, ◌++◌, List, length, take, drop, arith}
use Rattle.std.proofs.lemmas.Grind.{common_steps}

pub refilled : (count : ℕ) (old new : List ℕ) → length new ≡ count → take count (new ++ drop (length new) old) ≡ new
refilled count old new is = grind (arith, common_steps)
