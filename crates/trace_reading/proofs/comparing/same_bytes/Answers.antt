use Rattle.std.proofs.Common.{rules, ◌≡◌, ◌≢◌, bytes_eq, true, false, true≢false, sym, ap, ◌∙◌, take}
use Rattle.trace_reading.proofs.SameBytes.{rest_decides, other_front}
use Rattle.trace_reading.proofs.comparing.same_bytes.Goals as goal

pub loop-x-preserved : goal.loop-x-preserved
loop-x-preserved c =
    let left = c.in-Some-Some.ensures.cases in
    let right = c.in-Some-Some.ensures'.cases in
    let yes : c.is_same_word.result ≡ true = search rules in
    let front : take 8 c.loop-x.left.now ≡ take 8 c.loop-x.right.now = sym left.0 ∙ c.is_same_word.ensures.0 yes ∙ right.0 in
    ap (λ t. bytes_eq t c.in-Some-Some.rest.now) left.1 ∙ ap (bytes_eq _) right.1 ∙ rest_decides c.loop-x.left.now c.loop-x.right.now front ∙ c.loop-x.invariant

pub returns-then-not-is_same_word : goal.returns-then-not-is_same_word
returns-then-not-is_same_word c =
    let left = c.in-Some-Some.ensures.cases in
    let right = c.in-Some-Some.ensures'.cases in
    let no : c.is_same_word.result ≡ false = search rules in
    let front : take 8 c.loop-x.left.now ≢ take 8 c.loop-x.right.now =
    (λ e. true≢false (sym (c.is_same_word.ensures.1 (left.0 ∙ e ∙ sym right.0)) ∙ no))
    in
    sym (other_front c.loop-x.left.now c.loop-x.right.now front) ∙ c.loop-x.invariant
