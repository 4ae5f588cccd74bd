use Rattle.line_fields.proofs.Decimals.{number_is_text, number_too_large}
use Rattle.line_fields.proofs.numbers.number_in.Goals as goal

pub returns-in_default-clause-none : goal.returns-in_default-clause-none
returns-in_default-clause-none c = absurd (c.in_default.ensures.cases.0 (number_is_text c.args.text.now c.requires))

pub returns-in-Err-clause-none : goal.returns-in-Err-clause-none
returns-in-Err-clause-none c =
    number_too_large c.args.text.now c.in-Ok.text.now c.parse.result c.in-Err.field-0 c.requires c.in-Ok.ensures.cases.0 c.in-Err.is c.parse.ensures.value.0
