use Rattle.std.proofs.Common.{◌≡◌, map, drop}
use Rattle.description_shapes.specs.Keys.{key_of}
use Rattle.description_shapes.specs.Shape.{is_key}
use Rattle.description_shapes.proofs.shape.is_key.Given as goal

abbrev pub invariant-loop-key : goal.invariant-loop-key
invariant-loop-key l = is_key (map key_of l.keys) l.name ≡ is_key (map key_of (drop l.key-index l.keys)) l.name
