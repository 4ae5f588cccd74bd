use Rattle.std.proofs.Common.{◌≡◌, map, take}
use Rattle.rte_value.specs.Arithmetic.{clamped}
use Rattle.rte_value.specs.Padding.{padded}
use Rattle.rte_value.specs.Values.{words_of}
use Rattle.rte_value.proofs.value.clamped.clamp_value.Given as goal

abbrev pub invariant-loop-i : goal.invariant-loop-i
invariant-loop-i l = l.words ≡ padded (map (clamped l.limits) (take l.i (words_of l.value)))
