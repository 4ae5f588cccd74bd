use Rattle.std.proofs.Common.{[], sym, ap, ◌∙◌, option_copied}
use Rattle.std.specs.Option.{option_map_or}
use Rattle.plan_definitions.specs.Sites.{sites_of_component}
use Rattle.plan_definitions.proofs.Turns.{nothing}
use Rattle.plan_numbers.proofs.all_sites.push_instance.Goals as goal

pub returns-in-None : goal.returns-in-None
returns-in-None c = nothing c.args.list.now.items _ (ap (λ o. option_map_or (sites_of_component c.args.d.now.types c.args.number) o []) (sym c.component_at.ensures ∙ ap option_copied c.in-None.is))

pub push_component-requires-clause-inside : goal.push_component-requires-clause-inside
push_component-requires-clause-inside c = c.requires.parts.components c.args.instance.now.component c.in-Some.component.now (sym c.component_at.ensures ∙ ap option_copied c.in-Some.is)
