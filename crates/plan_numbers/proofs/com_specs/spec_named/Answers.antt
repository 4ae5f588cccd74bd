use Rattle.std.proofs.Common.{ap, ◌∙◌}
use Rattle.std.specs.List.{slice_get}
use Rattle.std.specs.Option.{option_and_then}
use Rattle.plan_numbers.proofs.Finding.{spec_found}
use Rattle.plan_numbers.proofs.com_specs.spec_named.Goals as goal

pub returns : goal.returns
returns c = c.placed.ensures ∙ ap (option_and_then (slice_get c.args.specs.now)) c.find-position.ensures ∙ spec_found c.args.item c.args.specs.now c.args.table.now c.requires
