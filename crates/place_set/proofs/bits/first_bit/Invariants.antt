use Rattle.std.proofs.Common.{◌≡◌, ℕ, ◌<◌, ◌≤◌, ◌+◌, ◌*◌, max, false}
use Rattle.place_set.specs.Bits.{bit_of}
use Rattle.place_set.proofs.bits.first_bit.Given as goal

abbrev pub invariant-loop-word : goal.invariant-loop-word
invariant-loop-word l =
    record {
      behind : l.word * 64 + l.behind ≡ max l.from (l.word * 64);
      small : l.behind < 64;
      none : (place : ℕ) → l.from ≤ place → place < l.word * 64 → bit_of l.words place ≡ false;
    }
