use Rattle.std.proofs.Common.{◌∙◌, ap, option_map, slice_get}
use Rattle.mapping_rules.proofs.Named.{same_at}
use Rattle.plan_definitions.specs.Mapped.{event_names}
use Rattle.mapping_rules.specs.Naming.{names_of}
use Rattle.mapping_rules.proofs.naming.Names.events_in.Goals as goal

pub returns : goal.returns
returns c = ap (option_map names_of) (c.positions_at.ensures ∙ ap (λ l. slice_get l c.args.component) c.as_slice.ensures.value)
    ∙ same_at names_of event_names c.args.self.now.events.items c.args.self.now.d.now.components c.args.self.now.are_events c.args.component
