use Rattle.std.proofs.Common.{◌+◌, ◌∷◌, take, ap, ◌∙◌, sym}
use Rattle.std.proofs.lemmas.List.{take_rest}
use Rattle.line_fields.specs.Texts.{parts}
use Rattle.line_fields.proofs.Cutting.{parts-found, parts-none}
use Rattle.line_fields.proofs.cuts.cut.Goals as goal

pub returns-in-Some-clause-parts : goal.returns-in-Some-clause-parts
returns-in-Some-clause-parts c =
    parts-found c.args.separator c.args.text.now c.in-Some.at c.in-Some.ensures
    ∙ ap (λ t. take c.in-Some.at c.args.text.now ∷ parts c.args.separator t) (sym (take_rest c.args.text.now (c.in-Some.at + 1)))

pub returns-in-None-clause-parts : goal.returns-in-None-clause-parts
returns-in-None-clause-parts c = parts-none c.args.separator c.args.text.now c.in-None.ensures
