-- The values of a description in document order, each with its kind and its place.
use Rattle.std.specs.Prelude.{ℕ, ◌+◌, List, [], ◌∷◌, ◌++◌, Bool, Option, option_map, bytes_eq, if◌then◌else◌, slice_index_or}
use Rattle.std.specs.List.{find}
use Rattle.serde_json.specs.Data.{Data, null, boolean, number, string, array, object, Items, no_items, item, Members, no_members, member}
use Rattle.description_shapes.specs.declared.form.Form.{Form}
use Rattle.description_shapes.specs.declared.form.Form.TheVariants as form
use Rattle.description_shapes.specs.declared.kind.Kind.{Kind}
use Rattle.description_shapes.specs.declared.kind.Kind.TheVariants.{Anything}
use Rattle.description_shapes.specs.Alternatives.{resolved}
use Rattle.description_shapes.specs.Forms.{form_of}
use Rattle.description_shapes.specs.Keys.{Key, keys_of}
use Rattle.description_shapes.specs.Rows.{row_of}
use Rattle.description_shapes.specs.Spots.{Spot, Level, inside, inside_part}

-- a value of a description
pub record Visit : Type 0 where
  pub place : List ℕ
  pub kind : Kind
  pub value : Data
  pub around : List Level

abbrev pub visit_at : Spot → Kind → Data → Visit
visit_at s kind d = record { place = s.place; kind = kind; value = d; around = s.around }

-- what stands at a value, once its kind and its spot are given
abbrev pub Found : Type 0
Found = Kind → Spot → List Visit

-- the kind of a part of an array
abbrev pub part_of : Form → Kind → ℕ → Kind
part_of (form.List part) kind i = part
part_of (form.Counted least most part) kind i = part
part_of form.Row kind i = slice_index_or (row_of kind) i Anything
part_of _ kind i = Anything

-- the parts of an array in order, the first of them at position i
abbrev pub in_parts : (ℕ → Kind) → (ℕ → Spot) → ℕ → List Found → List Visit
in_parts kinds spots i [] = []
in_parts kinds spots i (f ∷ fs) = f (kinds i) (spots i) ++ in_parts kinds spots (i + 1) fs

-- a value of an object, with its key
abbrev pub Member : Type 0
Member = List ℕ × Found

abbrev pub at_key : Key → (List ℕ → Spot) → List Member → List Visit
at_key k spots [] = []
at_key k spots (m ∷ ms) = if bytes_eq k.name m.0 then m.1 k.kind (spots k.name) else at_key k spots ms

-- the values of an object, in the order of the table
abbrev pub under_keys : List Key → (List ℕ → Spot) → List Member → List Visit
under_keys [] spots ms = []
under_keys (k ∷ ks) spots ms = at_key k spots ms ++ under_keys ks spots ms

-- what the array d of the kind holds, and what the object d holds
abbrev pub in_array : Kind → Data → Spot → List Found → List Visit
in_array kind d s fs = in_parts (part_of (form_of kind) kind) (inside_part s kind d) 0 fs

abbrev pub in_object : Kind → Data → Spot → List Member → List Visit
in_object kind d s ms = under_keys (keys_of kind) (inside s kind d) ms

-- a value, and then what it holds
abbrev mutual
  pub visits : Data → Found
  visits null kind s = visit_at s (resolved kind null) null ∷ []
  visits (boolean b) kind s = visit_at s (resolved kind (boolean b)) (boolean b) ∷ []
  visits (number n) kind s = visit_at s (resolved kind (number n)) (number n) ∷ []
  visits (string t) kind s = visit_at s (resolved kind (string t)) (string t) ∷ []
  visits (array ds) kind s = visit_at s (resolved kind (array ds)) (array ds) ∷ in_array (resolved kind (array ds)) (array ds) s (items_visits ds)
  visits (object ms) kind s = visit_at s (resolved kind (object ms)) (object ms) ∷ in_object (resolved kind (object ms)) (object ms) s (members_visits ms)

  pub items_visits : Items → List Found
  items_visits no_items = []
  items_visits (item d ds) = visits d ∷ items_visits ds

  pub members_visits : Members → List Member
  members_visits no_members = []
  members_visits (member key d ms) = (key, visits d) ∷ members_visits ms

-- the place of the first visit that breaks a rule
abbrev pub first_broken : (Visit → Bool) → List Visit → Option (List ℕ)
first_broken breaks vs = option_map (λ v. v.place) (find breaks vs)
