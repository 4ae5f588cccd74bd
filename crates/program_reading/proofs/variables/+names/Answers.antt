use Rattle.std.proofs.Common.{◌∙◌}
use Rattle.description_shapes.specs.Forms.{form_of}
use Rattle.description_shapes.specs.Visits.{part_of}
use Rattle.program_reading.proofs.Added.{part_added}
use Rattle.program_reading.proofs.variables.+names.Goals as goal

pub add_in_parts-loop-part-preserved : goal.add_in_parts-loop-part-preserved
add_in_parts-loop-part-preserved t c =
    part_added c.args.parts.now (part_of (form_of c.args.kind) c.args.kind) c.loop-part.part c.index-parts-part.result c.at.result c.loop-part.vars c.add_names.new.vars _
    c.loop-part-test.true c.index-parts-part.is (c.at.ensures ∙ c.part_kinds-kinds.ensures c.loop-part.part) c.loop-part.invariant c.in_ok-add_names.ensures
