use Rattle.std.proofs.Common.{◌≡◌, ℕ, take, false}
use Rattle.composition_tables.specs.declared.links.Link.{Link}
use Rattle.description_types.specs.Growing.{AnyOf, Grown}
use Rattle.end_crossing.specs.PortLinks.{link_of}
use Rattle.end_crossing.proofs.cross.add_items.Given as goal

abbrev pub invariant-loop-pair : goal.invariant-loop-pair
invariant-loop-pair l = Grown (AnyOf (λ (items : ℕ × ℕ) (x : Link). x ≡ link_of l.provided l.required items) (take l.pair-index l.pairs)) l.fn.links.list.items l.links.list.items false
