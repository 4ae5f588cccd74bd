use Rattle.std.proofs.Common.{length, ◌∙◌, inl, inr, arith}
use Rattle.std.proofs.lemmas.List.{take_rest, drop_all}
use Rattle.trace_check.proofs.FirstNewlines.{ends_at, ends_not}
use Rattle.trace_check.proofs.lines.first_line.Goals as goal

pub returns-in-Some-clause-line : goal.returns-in-Some-clause-line
returns-in-Some-clause-line c = inl (ends_at c.args.text.now c.in-Some.at c.in-Some.ensures)

pub returns-in-None-clause-line : goal.returns-in-None-clause-line
returns-in-None-clause-line c =
    let text = c.args.text.now in
    inr (ends_not text c.in-None.ensures, take_rest text (length text) ∙ drop_all (length text) text (omega arith))
