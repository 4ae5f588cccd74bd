use Rattle.std.proofs.Common.{◌≡◌, map, drop}
use Rattle.serde_json.specs.View.{view, items_view, members_view}
use Rattle.description_shapes.specs.Forms.{form_of}
use Rattle.description_shapes.specs.Keys.{key_of}
use Rattle.description_shapes.specs.Spots.{inside, inside_part}
use Rattle.description_shapes.specs.Trails.{spot_of}
use Rattle.description_shapes.specs.Visits.{items_visits, members_visits, in_array, in_object, in_parts, under_keys, part_of, first_broken}
use Rattle.description_shapes.proofs.walk.+judge.Given as goal

abbrev pub invariant-is_unbroken_in_members-loop-key : goal.invariant-is_unbroken_in_members-loop-key
invariant-is_unbroken_in_members-loop-key g l =
    first_broken (g.R.Rule.breaks l.rule) (in_object l.kind (view l.owner) (spot_of l.trail) (members_visits (members_view l.members.entries)))
    ≡ first_broken (g.R.Rule.breaks l.rule) (under_keys (map key_of (drop l.key-index l.key-items)) (inside (spot_of l.trail) l.kind (view l.owner)) (members_visits (members_view l.members.entries)))

abbrev pub invariant-is_unbroken_in_parts-loop-index : goal.invariant-is_unbroken_in_parts-loop-index
invariant-is_unbroken_in_parts-loop-index g l =
    first_broken (g.R.Rule.breaks l.rule) (in_array l.kind (view l.owner) (spot_of l.trail) (items_visits (items_view l.parts)))
    ≡ first_broken (g.R.Rule.breaks l.rule) (in_parts (part_of (form_of l.kind) l.kind) (inside_part (spot_of l.trail) l.kind (view l.owner)) l.index (items_visits (items_view (drop l.index l.parts))))
