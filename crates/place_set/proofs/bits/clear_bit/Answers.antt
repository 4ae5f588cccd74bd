use Rattle.std.proofs.Common.{◌/◌, ◌%◌, ◌*◌, ◌^◌, arith, w64, get_or, bit_and}
use Rattle.std.proofs.lemmas.Nat.Bits.{bit_at_clear_same, bit_at_clear_other}
use Rattle.std.specs.Int.{bit_not}
use Rattle.place_set.proofs.Words.{bit_here, other_bits}
use Rattle.place_set.proofs.bits.clear_bit.Goals as goal

pub returns-clause-clear : goal.returns-clause-clear
returns-clause-clear c =
    let place = c.args.place in
    let word = get_or c.args.words.now (place / 64) 0 in
    rw c.within.ensures (bit_here c.args.words.now place (bit_and word (bit_not w64 (1 * 2 ^ (place % 64) % 2 ^ 64))) c.requires 0 (bit_at_clear_same w64 word (place % 64) (omega arith)))

pub returns-clause-bits : goal.returns-clause-bits
returns-clause-bits c =
    let place = c.args.place in
    let word = get_or c.args.words.now (place / 64) 0 in
    rw c.within.ensures (other_bits c.args.words.now place (bit_and word (bit_not w64 (1 * 2 ^ (place % 64) % 2 ^ 64))) c.requires (λ at small apart. bit_at_clear_other w64 word (place % 64) (omega arith) at small apart))
