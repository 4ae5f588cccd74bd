use Rattle.std.proofs.Common.{◌∙◌}
use Rattle.mapping_rules.proofs.Sameness.{spread_found}
use Rattle.mapping_rules.proofs.instances.spread_in.Goals as goal

pub returns : goal.returns
returns c = c.spread_among-part.ensures ∙ spread_found c.args.servers.now.mapped.now.names.d.now c.args.servers.now.mapped.now.names.f.now c.args.instance c.args.component.now c.in_ok-tasks.tasks.entries.items
    c.items.result.now c.items-2.result.now c.requires c.in_ok-tasks.ensures c.items.ensures c.items-2.ensures
