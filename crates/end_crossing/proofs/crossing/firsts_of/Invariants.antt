use Rattle.std.proofs.Common.{ℕ, take}
use Rattle.description_types.specs.Members.{Among}
use Rattle.end_crossing.proofs.crossing.firsts_of.Given as goal

abbrev pub invariant-loop-pair : goal.invariant-loop-pair
invariant-loop-pair l = (k : ℕ × ℕ) → Among k (take l.pair-index l.pairs) → Among k.0 l.found.keys
