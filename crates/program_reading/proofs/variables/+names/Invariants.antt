use Rattle.std.proofs.Common.{◌≡◌, drop}
use Rattle.description_shapes.specs.Forms.{form_of}
use Rattle.description_shapes.specs.Visits.{part_of}
use Rattle.serde_json.specs.View.{items_view}
use Rattle.program_reading.specs.Variables.{all_added, among_parts, in_parts, names_in_each}
use Rattle.program_reading.proofs.variables.+names.Given as goal

abbrev pub invariant-add_in_parts-loop-part : goal.invariant-add_in_parts-loop-part
invariant-add_in_parts-loop-part l =
    all_added l.vars (among_parts (part_of (form_of l.fn.kind) l.fn.kind) l.part (names_in_each (items_view (drop l.part l.parts))))
    ≡ all_added l.initial.vars (in_parts l.fn.kind (names_in_each (items_view l.parts)))
