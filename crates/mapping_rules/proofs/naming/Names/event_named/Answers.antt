use Rattle.std.proofs.Common.{ℕ, ◌∙◌, ap, option_map}
use Rattle.plan_definitions.specs.Parts.{component_of}
use Rattle.mapping_rules.proofs.Events.{event_found}
use Rattle.mapping_rules.proofs.naming.Names.event_named.Goals as goal

pub returns-in-Some : goal.returns-in-Some
returns-in-Some c = c.event_of.ensures ∙ ap (option_map {U = ℕ × ℕ} (λ m. (c.args.instance, m))) c.find.ensures
    ∙ event_found c.args.name.now c.args.instance c.in-Some.events.now (component_of c.args.self.now.d.now c.args.self.now.f.now c.args.instance) c.in-Some.ensures
