use Rattle.std.proofs.Common.{arith}
use Rattle.std.proofs.lemmas.List.{take-replicate}
use Rattle.plan_elements.proofs.said.repeated.Goals as goal

pub returns : goal.returns
returns c =
    let same = take-replicate c.args.count 16 c.args.word c.if-count-gt-MOST_WORDS.false in
    grind (arith, same, c.held.ensures)
