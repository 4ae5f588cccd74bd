use Rattle.std.proofs.Common.{Some, ap, ◌∙◌}
use Rattle.bus_semantics.specs.Common.{position_from, option_and_then, option_eq}
use Rattle.plan_definitions.specs.Keys.{same_pair}
use Rattle.plan_services.proofs.Invoking.{invoked_found}
use Rattle.plan_services.proofs.invoked.invocation_of.Goals as goal

pub returns : goal.returns
returns c = c.found_in.ensures ∙ ap (option_and_then (position_from (option_eq same_pair (Some (c.args.port, c.args.item))) 0)) c.table_at-table.ensures
    ∙ invoked_found c.args.source.now.d.now c.args.source.now.f.now c.args.tables.now c.args.instance c.args.port c.args.item c.requires
