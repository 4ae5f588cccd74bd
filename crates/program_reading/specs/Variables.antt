-- How the variables of a program are numbered: by their first place in its text.
use Rattle.std.specs.Prelude.{ℕ, ◌+◌, List, [], ◌∷◌, ◌++◌, bytes_eq, if◌then◌else◌}
use Rattle.std.specs.List.{list_any}
use Rattle.serde_json.specs.Data.{Data, null, boolean, number, string, array, object, Items, no_items, item}
use Rattle.description_shapes.specs.Alternatives.{resolved}
use Rattle.description_shapes.specs.declared.kind.Kind.{Kind}
use Rattle.description_shapes.specs.declared.kind.Kind.TheVariants.{LocalName, Statements}
use Rattle.description_shapes.specs.Forms.{form_of}
use Rattle.description_shapes.specs.Visits.{part_of}
use Rattle.declared_names.specs.Names.{Names}

-- each name once, in the order of the first places
abbrev pub added : Names → List ℕ → Names
added vars name = if list_any (bytes_eq name) vars then vars else vars ++ name ∷ []

abbrev pub all_added : Names → Names → Names
all_added vars [] = vars
all_added vars (n ∷ ns) = all_added (added vars n) ns

-- the variables that a value of a kind names, in document order
abbrev pub Named : Type 0
Named = Kind → Names

abbrev pub name_here : Kind → List ℕ → Names
name_here LocalName name = name ∷ []
name_here _ name = []

abbrev pub among_parts : (ℕ → Kind) → ℕ → List Named → Names
among_parts kinds i [] = []
among_parts kinds i (f ∷ fs) = f (kinds i) ++ among_parts kinds (i + 1) fs

abbrev pub in_parts : Kind → List Named → Names
in_parts kind fs = among_parts (part_of (form_of kind) kind) 0 fs

abbrev mutual
  pub names_in : Data → Named
  names_in null kind = []
  names_in (boolean b) kind = []
  names_in (number n) kind = []
  names_in (string t) kind = name_here (resolved kind (string t)) t
  names_in (array ds) kind = in_parts (resolved kind (array ds)) (names_in_each ds)
  names_in (object ms) kind = []

  pub names_in_each : Items → List Named
  names_in_each no_items = []
  names_in_each (item d ds) = names_in d ∷ names_in_each ds

-- the variables of a program whose first ones have these names
abbrev pub variables_of : (first : Names) → (program : Data) → Names
variables_of first d = all_added [] (first ++ names_in d Statements)
