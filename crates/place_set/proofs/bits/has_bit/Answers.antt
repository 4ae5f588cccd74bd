use Rattle.std.proofs.Common.{◌/◌, ◌==◌, ◌∙◌, ap, get_or}
use Rattle.std.proofs.lemmas.Nat.Bits.{shr_and_one}
use Rattle.std.specs.Int.{bit_at}
use Rattle.place_set.specs.Bits.{bit_of}
use Rattle.place_set.proofs.bits.has_bit.Goals as goal

pub returns : goal.returns
unfolding bit_of
returns c =
    let word = get_or c.args.words.now (c.args.place / 64) 0 in
    ap (λ x. x == 1) (shr_and_one word c.within.result) ∙ ap (λ at. bit_at word at == 1) c.within.ensures
