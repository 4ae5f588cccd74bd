use Rattle.std.proofs.Common.{sym, ◌∙◌}
use Rattle.trace_reading.proofs.Values.{value_answered}
use Rattle.trace_reading.proofs.fields.value_at.Goals as goal

pub returns-then-is_value : goal.returns-then-is_value
returns-then-is_value c =
    value_answered c.args.text.now c.value_in.result (sym c.is_value.ensures ∙ c.if-is_value.true) c.value_in.ensures.found c.value_in.ensures.held c.value_in.ensures.none
