-- The rules of shapes and of names, and the values that they are judged of.
use Rattle.std.specs.Prelude.{List, Bool, not, ◌&&◌, ◌||◌}
use Rattle.serde_json.specs.Data.{Data}
use Rattle.serde_json.specs.Find.{as_str}
use Rattle.description_shapes.specs.declared.form.Form.{Form}
use Rattle.description_shapes.specs.declared.kind.Kind.{Kind}
use Rattle.description_shapes.specs.declared.kind.Kind.TheVariants.{Description}
use Rattle.description_shapes.specs.Forms.{form_of}
use Rattle.description_shapes.specs.Names.{is_name, is_name_form}
use Rattle.description_shapes.specs.Shape.{holds, has_shape}
use Rattle.description_shapes.specs.Spots.{top}
use Rattle.description_shapes.specs.Visits.{Visit, visits}

-- rule 2: each value has the shape of its kind
abbrev pub breaks_shape : Visit → Bool
breaks_shape v = not (has_shape v.kind v.value)

-- rule 3: each name has 1 to 32 bytes, a letter, then letters, digits and _
abbrev pub is_no_name_of : Form → Data → Bool
is_no_name_of form d = is_name_form form && not (holds is_name (as_str d))

abbrev pub is_no_name : Kind → Data → Bool
is_no_name kind d = is_no_name_of (form_of kind) d

abbrev pub breaks_names : Visit → Bool
breaks_names v = is_no_name v.kind v.value

-- rules 2 and 3 together
abbrev pub breaks_shape_or_names : Visit → Bool
breaks_shape_or_names v = breaks_shape v || breaks_names v

-- the values of the description d in document order
abbrev pub visits_of : Data → List Visit
visits_of d = visits d Description top
