use Rattle.std.proofs.Common.{◌≡◌, map, drop}
use Rattle.description_shapes.specs.Rows.{text_of}
use Rattle.description_shapes.specs.Shape.{is_among}
use Rattle.description_shapes.proofs.shape.is_among.Given as goal

abbrev pub invariant-loop-word : goal.invariant-loop-word
invariant-loop-word l = is_among (map text_of l.words) l.text ≡ is_among (map text_of (drop l.word-index l.words)) l.text
