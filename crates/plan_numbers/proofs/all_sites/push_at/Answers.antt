use Rattle.std.proofs.Common.{[], sym, ap, ◌∙◌}
use Rattle.std.specs.Option.{option_map_or}
use Rattle.plan_definitions.specs.Sites.{sites_with}
use Rattle.plan_numbers.proofs.Few.{few_at}
use Rattle.plan_definitions.proofs.Turns.{nothing}
use Rattle.plan_numbers.proofs.all_sites.push_at.Goals as goal

pub returns-in-None : goal.returns-in-None
returns-in-None c = nothing c.args.list.now.items _ (ap (λ o. option_map_or (λ x. sites_with c.args.owner c.args.number x.0 x.1) o []) (sym c.shape_at.ensures ∙ c.in-None.is))

pub position-count-requires : goal.position-count-requires
position-count-requires c = few_at c.args.types.now c.args.owner c.args.port.now c.in-Some.kind c.in-Some.count c.requires.items (sym c.shape_at.ensures ∙ c.in-Some.is)
