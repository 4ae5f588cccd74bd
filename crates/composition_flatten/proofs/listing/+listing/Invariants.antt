use Rattle.std.proofs.Common.{◌≡◌, ◌++◌, ◌+◌, ◌*◌, ◌-◌, drop}
use Rattle.std.specs.List.{flat_map}
use Rattle.composition_flatten.specs.Named.{named_below, named_of}
use Rattle.composition_flatten.proofs.listing.+listing.Given as goal

abbrev pub invariant-list_below-loop-prototype : goal.invariant-list_below-loop-prototype
invariant-list_below-loop-prototype l =
    l.fn.listed.items ++ named_below l.d l.depth l.composition l.prefix ≡ l.listed.items ++ flat_map (λ p. named_of (named_below l.d (l.depth - 1)) p.of_type (l.prefix ++ p.short_name)) (drop l.prototype-index l.prototype-items)

abbrev pub decreases-list_below : goal.decreases-list_below
decreases-list_below l = 2 * l.depth

abbrev pub decreases-list_prototype : goal.decreases-list_prototype
decreases-list_prototype l = 2 * l.depth + 1
