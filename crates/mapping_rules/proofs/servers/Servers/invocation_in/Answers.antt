use Rattle.std.proofs.Common.{◌∙◌, Some, None, slice_get}
use Rattle.mapping_rules.proofs.Named.{same_found}
use Rattle.mapping_rules.proofs.Invoked.{invoked_found, invoked_absent}
use Rattle.mapping_rules.specs.Listed.{invoked_in}
use Rattle.mapping_rules.proofs.servers.Servers.invocation_in.Goals as goal

pub returns-in-Some : goal.returns-in-Some
returns-in-Some c = c.find.ensures ∙ invoked_found c.args.port c.args.operation c.in-Some.table.now.entries.items (slice_get c.args.self.now.mapped.now.names.d.now.components c.args.component)
    (same_found (λ t. t.entries.items) invoked_in c.args.component (Some c.in-Some.table.now) c.as_slice.result.now c.args.self.now.invocations.items c.args.self.now.mapped.now.names.d.now.components
    c.in-Some.ensures c.as_slice.ensures.value c.args.self.now.are_invocations)

pub returns-in-None : goal.returns-in-None
returns-in-None c = invoked_absent c.args.port c.args.operation (slice_get c.args.self.now.mapped.now.names.d.now.components c.args.component)
    (same_found (λ t. t.entries.items) invoked_in c.args.component None c.as_slice.result.now c.args.self.now.invocations.items c.args.self.now.mapped.now.names.d.now.components
    c.in-None.ensures c.as_slice.ensures.value c.args.self.now.are_invocations)
