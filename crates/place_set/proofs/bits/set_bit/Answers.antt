use Rattle.std.proofs.Common.{◌/◌, ◌%◌, ◌*◌, ◌^◌, arith, w64, get_or, bit_or}
use Rattle.std.proofs.lemmas.Nat.Bits.{bit_at_set_same, bit_at_set_other}
use Rattle.place_set.proofs.Words.{bit_here, other_bits}
use Rattle.place_set.proofs.bits.set_bit.Goals as goal

pub returns-clause-set : goal.returns-clause-set
returns-clause-set c =
    let place = c.args.place in
    let word = get_or c.args.words.now (place / 64) 0 in
    rw c.within.ensures (bit_here c.args.words.now place (bit_or word (1 * 2 ^ (place % 64) % 2 ^ 64)) c.requires 1 (bit_at_set_same w64 word (place % 64) (omega arith)))

pub returns-clause-bits : goal.returns-clause-bits
returns-clause-bits c =
    let place = c.args.place in
    let word = get_or c.args.words.now (place / 64) 0 in
    rw c.within.ensures (other_bits c.args.words.now place (bit_or word (1 * 2 ^ (place % 64) % 2 ^ 64)) c.requires (λ at small apart. bit_at_set_other w64 word (place % 64) (omega arith) at apart))
