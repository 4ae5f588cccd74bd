use Rattle.std.proofs.Common.{◌≡◌, map}
use Rattle.serde_json.specs.View.{members_view}
use Rattle.description_shapes.specs.Keys.{key_of}
use Rattle.description_shapes.specs.Shape.{has_only}
use Rattle.description_shapes.proofs.shape.has_only.Given as goal

abbrev pub invariant-loop-name : goal.invariant-loop-name
invariant-loop-name l =
    (goal.iterator-loop-name).can_next l.name-iterator ×
    (goal.iterator-loop-name).is_finite l.name-iterator ×
    (has_only (map key_of l.keys) (members_view l.members.entries) ≡ has_only (map key_of l.keys) (members_view l.name-iterator))
