-- A value of a known form.
use Rattle.std.proofs.Common.{◌≡◌, Bool, true, false, is_some, refl}
use Rattle.std.proofs.lemmas.Bool.{false≢true}
use Rattle.serde_json.specs.Data.{Data, null, boolean, number, string, array, object, Items, Members}
use Rattle.serde_json.specs.Find.{as_array, as_object}
use Rattle.description_shapes.specs.declared.form.Form.{Form}
use Rattle.description_shapes.specs.declared.form.Form.TheVariants as form
use Rattle.description_shapes.specs.declared.kind.Kind.{Kind}
use Rattle.description_shapes.specs.declared.kind.Kind.TheVariants.{DeclaredName}
use Rattle.description_shapes.specs.Shape.{fits}

pub on_object : (P : Data → Type 0) → ((ms : Members) → P (object ms)) → (d : Data) → is_some (as_object d) ≡ true → P d
on_object P f null h = absurd (false≢true h)
on_object P f (boolean b) h = absurd (false≢true h)
on_object P f (number n) h = absurd (false≢true h)
on_object P f (string t) h = absurd (false≢true h)
on_object P f (array ps) h = absurd (false≢true h)
on_object P f (object ms) h = f ms

pub on_array : (P : Data → Type 0) → ((ps : Items) → P (array ps)) → (d : Data) → is_some (as_array d) ≡ true → P d
on_array P f null h = absurd (false≢true h)
on_array P f (boolean b) h = absurd (false≢true h)
on_array P f (number n) h = absurd (false≢true h)
on_array P f (string t) h = absurd (false≢true h)
on_array P f (array ps) h = f ps
on_array P f (object ms) h = absurd (false≢true h)

abbrev pub is_short_name : Kind → Bool
is_short_name DeclaredName = true
is_short_name _ = false

pub short_kind : (kind : Kind) → is_short_name kind ≡ true → kind ≡ DeclaredName
short_kind DeclaredName h = refl
short_kind _ h = absurd (false≢true h)

abbrev pub is_object : Form → Bool
is_object form.Object = true
is_object _ = false

pub object_from_shape : (f : Form) (kind : Kind) (d : Data) → is_object f ≡ true → fits f kind d ≡ true → is_some (as_object d) ≡ true
object_from_shape form.Object kind null h k = k
object_from_shape form.Object kind (boolean b) h k = k
object_from_shape form.Object kind (number n) h k = k
object_from_shape form.Object kind (string t) h k = k
object_from_shape form.Object kind (array ps) h k = k
object_from_shape form.Object kind (object ms) h k = refl
object_from_shape _ kind d h k = absurd (false≢true h)
