use Rattle.std.proofs.Common.{◌≡◌, take, false}
use Rattle.composition_tables.specs.declared.links.Link.{Link}
use Rattle.description_types.specs.Growing.{AnyOf, Grown}
use Rattle.composition_flatten.specs.Links.{link_from}
use Rattle.composition_flatten.proofs.whole.add_from.Given as goal

abbrev pub invariant-loop-link : goal.invariant-loop-link
invariant-loop-link l = Grown (AnyOf (λ (y x : Link). x ≡ link_from l.first y) (take l.link-index l.own)) l.fn.links.list.items l.links.list.items false
