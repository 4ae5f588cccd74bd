-- Keys at which a walk need not look.
use Rattle.std.specs.Prelude.{◌≡◌, Bool, true, false, not, ◌&&◌, None}
use Rattle.serde_json.specs.Data.{Data}
use Rattle.description_shapes.specs.declared.form.Form.{Form}
use Rattle.description_shapes.specs.declared.form.Form.TheVariants as form
use Rattle.description_shapes.specs.declared.kind.Kind.{Kind}
use Rattle.description_shapes.specs.declared.kind.Kind.TheVariants.{DeclaredName, DeclaredMode, DeclaredArea, ComSpecItem, Position, TypeName, GroupName, InterfaceName, PrototypeTypeName}
use Rattle.description_shapes.specs.declared.kind.Kind.TheVariants.{RootName, TaskName, InitialMode, RunnableName, ComponentPort, OuterPort, AreaName, VariableName, EventItem, AccessItem}
use Rattle.description_shapes.specs.declared.kind.Kind.TheVariants.{PairItem, JoinedPrototype, JoinedPort, CoreNumber}
use Rattle.description_shapes.specs.Forms.{form_of}
use Rattle.description_shapes.specs.Spots.{Spot}
use Rattle.description_shapes.specs.Visits.{Visit, visits, first_broken}

-- a name, a text, a word, a number or a flag, which holds no other value
abbrev pub is_plain : Form → Bool
is_plain form.Name = true
is_plain form.Text = true
is_plain form.Word = true
is_plain form.Int = true
is_plain (form.Range least most) = true
is_plain form.Flag = true
is_plain _ = false

-- a plain value of the kind is declared
abbrev pub is_declared_kind : Kind → Bool
is_declared_kind DeclaredName = true
is_declared_kind DeclaredMode = true
is_declared_kind DeclaredArea = true
is_declared_kind ComSpecItem = true
is_declared_kind Position = true
is_declared_kind _ = false

abbrev pub declares_nothing : Kind → Bool
declares_nothing kind = is_plain (form_of kind) && not (is_declared_kind kind)

-- a plain value of the kind refers to something
abbrev pub is_referring_kind : Kind → Bool
is_referring_kind TypeName = true
is_referring_kind GroupName = true
is_referring_kind InterfaceName = true
is_referring_kind PrototypeTypeName = true
is_referring_kind RootName = true
is_referring_kind TaskName = true
is_referring_kind InitialMode = true
is_referring_kind RunnableName = true
is_referring_kind ComponentPort = true
is_referring_kind OuterPort = true
is_referring_kind AreaName = true
is_referring_kind VariableName = true
is_referring_kind ComSpecItem = true
is_referring_kind EventItem = true
is_referring_kind AccessItem = true
is_referring_kind PairItem = true
is_referring_kind JoinedPrototype = true
is_referring_kind JoinedPort = true
is_referring_kind CoreNumber = true
is_referring_kind _ = false

abbrev pub refers_to_nothing : Kind → Bool
refers_to_nothing kind = is_plain (form_of kind) && not (is_referring_kind kind)

-- Where a value of the kind should stand, nothing breaks the rule, whatever stands there.
abbrev pub Skips : (Visit → Bool) → Kind → Type 0
Skips breaks kind = (d : Data) (s : Spot) → first_broken breaks (visits d kind s) ≡ None
