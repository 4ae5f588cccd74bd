use Rattle.std.proofs.Common.{◌≡◌, subst}
use Rattle.composition_tables.specs.declared.links.Link.{Link}
use Rattle.description_types.specs.Growing.{Grown}
use Rattle.composition_flatten.proofs.whole.add_one_from.Goals as goal

pub returns : goal.returns
returns c = subst (λ (y : Link). Grown (λ x. x ≡ y) c.args.links.now.list.items c.add_link.new.links.list.items c.in_ok-is_full.is_full) c.link_from.ensures c.in_ok-is_full.ensures
