use Rattle.std.proofs.Common.{sym, ◌∙◌}
use Rattle.trace_objects.proofs.Compared.{unbroken_itself}
use Rattle.trace_objects.proofs.making.make.Goals as goal

pub returns-clause-made : goal.returns-clause-made
returns-clause-made c = λ m h tried stand none. (c.try_entry.ensures.tried m h tried stand).made (unbroken_itself c.args.entry.now c.try_entry.result (sym c.broken_by.ensures ∙ none))
