use Rattle.std.proofs.Common.{◌≡◌, map, drop}
use Rattle.description_shapes.specs.Keys.{key_of}
use Rattle.description_shapes.specs.Shape.{has_needed}
use Rattle.serde_json.specs.View.{members_view}
use Rattle.description_shapes.proofs.shape.has_needed.Given as goal

abbrev pub invariant-loop-key : goal.invariant-loop-key
invariant-loop-key l = has_needed (map key_of l.keys) (members_view l.members.entries) ≡ has_needed (map key_of (drop l.key-index l.keys)) (members_view l.members.entries)
