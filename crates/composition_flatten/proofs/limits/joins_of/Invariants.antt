use Rattle.std.proofs.Common.{◌≡◌, map, take}
use Rattle.composition_flatten.specs.Joins.{join_of}
use Rattle.composition_flatten.proofs.limits.joins_of.Given as goal

abbrev pub invariant-loop-link : goal.invariant-loop-link
invariant-loop-link l = l.joins.items ≡ map join_of (take l.link-index l.links)
