use Rattle.std.proofs.Common.{◌+◌, ◌∷◌, take, length, ap, ◌∙◌, sym, arith}
use Rattle.std.proofs.lemmas.List.{take_rest, drop_all}
use Rattle.line_fields.specs.Texts.{lines_of}
use Rattle.line_fields.proofs.Cutting.{lines-found, lines-none}
use Rattle.line_fields.proofs.cuts.split_line.Goals as goal

pub returns-in-Some-clause-lines : goal.returns-in-Some-clause-lines
returns-in-Some-clause-lines c =
    lines-found c.args.bytes.now c.in-Some.at c.in-Some.ensures
    ∙ ap (λ t. take c.in-Some.at c.args.bytes.now ∷ lines_of t) (sym (take_rest c.args.bytes.now (c.in-Some.at + 1)))

pub returns-in-None-clause-lines : goal.returns-in-None-clause-lines
returns-in-None-clause-lines c =
    let bytes = c.args.bytes.now in
    lines-none bytes c.requires c.in-None.ensures
    ∙ ap (λ t. bytes ∷ lines_of t) (sym (take_rest bytes (length bytes) ∙ drop_all (length bytes) bytes (omega arith)))
