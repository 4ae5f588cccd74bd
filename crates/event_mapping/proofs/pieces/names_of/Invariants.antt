use Rattle.std.proofs.Common.{◌≡◌, map, take}
use Rattle.event_mapping.proofs.pieces.names_of.Given as goal

abbrev pub invariant-loop-instance : goal.invariant-loop-instance
invariant-loop-instance l = l.names.items ≡ map (λ i. i.path) (take l.instance-index l.instances)
