use Rattle.std.proofs.Common.{◌≡◌, ◌+◌, ◌/◌, ap, ◌∙◌, replicate, rules}
use Rattle.place_set.specs.Bits.{flags_of}
use Rattle.place_set.proofs.Made.{empty_summary, empty_flags}
use Rattle.place_set.proofs.set.PlaceSet.empty.Goals as goal

pub invariant_of-result : goal.invariant_of-result
invariant_of-result c =
    let words : c.in_ok-words.words.items ≡ replicate (c.args.len / 64 + 1) 0 = search rules in
    let summary : c.in_ok-summary.summary.items ≡ replicate ((c.args.len / 64 + 1) / 64 + 1) 0 = search rules in
    rw (words, summary) (empty_summary c.args.len)

pub returns : goal.returns
returns c =
    let words : c.in_ok-words.words.items ≡ replicate (c.args.len / 64 + 1) 0 = search rules in
    ap (λ ws. flags_of ws c.args.len) words ∙ empty_flags c.args.len
