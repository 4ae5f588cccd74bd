-- The short name of an object: it is a name, and stands at no earlier place.
use Rattle.std.proofs.Common.{◌≡◌, ℕ, List, [], ◌∷◌, Bool, true, false, not, ◌&&◌, ◌||◌, bytes_eq, codes, Option, Some, None, is_some, refl, sym, ap, subst, ◌∙◌, ◌⊎◌, inl, inr}
use Rattle.bus_semantics.specs.Common.{slice_get, option_and_then, unwrap_or, and_parts, or_cases, false≢true, bytes_eq-Decides}
use Rattle.std.proofs.lemmas.Bool.{not-false}
use Rattle.serde_json.specs.Data.{Data, null, boolean, number, string, array, object, Members}
use Rattle.serde_json.specs.Find.{as_str, get, get_member}
use Rattle.description_places.specs.declared.catalogs.Catalog.{Catalog}
use Rattle.declared_names.specs.Values.{text_at, text_in}
use Rattle.description_shapes.specs.declared.form.Form.{Form}
use Rattle.description_shapes.specs.declared.form.Form.TheVariants as form
use Rattle.description_shapes.specs.declared.kind.Kind.{Kind}
use Rattle.description_shapes.specs.declared.kind.Kind.TheVariants.{DeclaredName}
use Rattle.description_shapes.specs.Alternatives.{resolved}
use Rattle.description_places.specs.Distinct.{is_named_before}
use Rattle.description_shapes.specs.Forms.{form_of}
use Rattle.description_shapes.specs.Keys.{Key, keys_of, needed}
use Rattle.description_shapes.specs.Names.{is_name, is_name_form}
use Rattle.description_shapes.specs.Shape.{fits, holds, has_needed, has_only}
use Rattle.description_shapes.specs.Spots.{Spot, Level, inside}
use Rattle.description_stages.proofs.Lists.{at_place, list_all_in}
use Rattle.description_stages.proofs.Kept.{Kept, kept_key, shape_here, name_here, repeated_here}
use Rattle.description_stages.proofs.Shapes.{is_object, is_short_name, short_kind, object_from_shape, on_object}

-- ---- keys of an object

shape_parts : (kind : Kind) (ms : Members) → fits form.Object kind (object ms) ≡ true → has_needed (keys_of kind) ms ≡ true
shape_parts kind ms h = (and_parts _ (has_only (keys_of kind) ms) h).0

form_object : (f : Form) (kind : Kind) (ms : Members) → is_object f ≡ true → fits f kind (object ms) ≡ true → fits form.Object kind (object ms) ≡ true
form_object form.Object kind ms h k = k
form_object _ kind ms h k = absurd (false≢true h)

is_value : (o : Option Data) → is_some o ≡ true → (x : Data) × (o ≡ Some x)
is_value None h = absurd (false≢true h)
is_value (Some x) h = (x, refl)

needed_there : (b : Bool) (o : Option Data) → (not b || is_some o) ≡ true → b ≡ true → is_some o ≡ true
needed_there true o h e = h
needed_there false o h e = absurd (false≢true e)

-- a needed key has its value
pub record Value (lists : Catalog) (x : Data) (kind : Kind) (s : Spot) (k : Key) : Type 0 where
  pub value : Data
  pub there : get k.name x ≡ Some value
  pub kept : Kept lists value k.kind (inside s (resolved kind x) x k.name)

pub needed_value : (lists : Catalog) (x : Data) (kind : Kind) (s : Spot) (n : ℕ) (k : Key) → is_object (form_of (resolved kind x)) ≡ true
    → slice_get (keys_of (resolved kind x)) n ≡ Some k → k.is_needed ≡ true → Kept lists x kind s → Value lists x kind s k
needed_value lists x kind s n k form is need kept =
    on_object (λ x. is_object (form_of (resolved kind x)) ≡ true → slice_get (keys_of (resolved kind x)) n ≡ Some k → Kept lists x kind s → Value lists x kind s k)
    by_members x (object_from_shape (form_of (resolved kind x)) (resolved kind x) x form (shape_here lists x kind s kept)) form is kept
  where
    by_members : (ms : Members) → is_object (form_of (resolved kind (object ms))) ≡ true → slice_get (keys_of (resolved kind (object ms))) n ≡ Some k → Kept lists (object ms) kind s → Value lists (object ms) kind s k
    by_members ms form is kept =
        let found = resolved kind (object ms) in
        let all = shape_parts found ms (form_object (form_of found) found ms form (shape_here lists (object ms) kind s kept)) in
        let here = is_value (get_member k.name ms) (needed_there k.is_needed _ (list_all_in (λ (k : Key). not k.is_needed || is_some (get_member k.name ms)) (keys_of found) k all (at_place (keys_of found) n k is)) need) in
        record {
          value = here.0;
          there = here.1;
          kept = kept_key lists ms kind s n k here.0 kept is here.1;
        }

-- a key that may be missing
pub optional_value : (lists : Catalog) (x : Data) (kind : Kind) (s : Spot) (n : ℕ) (k : Key) → is_object (form_of (resolved kind x)) ≡ true
    → slice_get (keys_of (resolved kind x)) n ≡ Some k → Kept lists x kind s → (get k.name x ≡ None) ⊎ Value lists x kind s k
optional_value lists x kind s n k form is kept =
    on_object (λ x. slice_get (keys_of (resolved kind x)) n ≡ Some k → Kept lists x kind s → (get k.name x ≡ None) ⊎ Value lists x kind s k)
    by_members x (object_from_shape (form_of (resolved kind x)) (resolved kind x) x form (shape_here lists x kind s kept)) is kept
  where
    by_members : (ms : Members) → slice_get (keys_of (resolved kind (object ms))) n ≡ Some k → Kept lists (object ms) kind s → (get k.name (object ms) ≡ None) ⊎ Value lists (object ms) kind s k
    by_members ms is kept = by_value (get_member k.name ms) refl
      where
        by_value : (o : Option Data) → get_member k.name ms ≡ o → (get k.name (object ms) ≡ None) ⊎ Value lists (object ms) kind s k
        by_value None e = inl e
        by_value (Some y) e = inr (record {
          value = y;
          there = e;
          kept = kept_key lists ms kind s n k y kept is e;
        })

-- ---- names

name_holds : (f : Form) (o : Option (List ℕ)) → is_name_form f ≡ true → (is_name_form f && not (holds is_name o)) ≡ false → holds is_name o ≡ true
name_holds f o is h = not-false _ (subst (λ b. (b && not (holds is_name o)) ≡ false) is h)

-- a value of a kind of names is a name
pub record Name (x : Data) : Type 0 where
  pub text : List ℕ
  pub is : x ≡ string text
  pub fits_name : is_name text ≡ true

pub name_value : (lists : Catalog) (x : Data) (kind : Kind) (s : Spot) → is_name_form (form_of (resolved kind x)) ≡ true → Kept lists x kind s → Name x
name_value lists x kind s form kept = by_value x (name_holds (form_of (resolved kind x)) (as_str x) form (name_here lists x kind s kept))
  where
    by_value : (x : Data) → holds is_name (as_str x) ≡ true → Name x
    by_value null h = absurd (false≢true h)
    by_value (boolean b) h = absurd (false≢true h)
    by_value (number n) h = absurd (false≢true h)
    by_value (string t) h = record { text = t; is = refl; fits_name = h }
    by_value (array ps) h = absurd (false≢true h)
    by_value (object ms) h = absurd (false≢true h)

-- ---- the short name

abbrev is_short_key : Option Key → Bool
is_short_key None = false
is_short_key (Some k) = k.is_needed && (bytes_eq k.name (codes "shortName") && is_short_name k.kind)

abbrev short_at : ℕ → Kind → Bool
short_at n kind = is_short_key (slice_get (keys_of kind) n)

-- the table has it at its first key, or at the second, after the key `kind`
abbrev pub has_short : Kind → Bool
has_short kind = is_object (form_of kind) && (short_at 0 kind || short_at 1 kind)

-- the values round the short name of an object
abbrev pub at_name : Kind → Data → List Level → List Level
at_name kind x around = record { kind = kind; value = x; number = 0 } ∷ around

pub record Short (lists : Catalog) (x : Data) (kind : Kind) (s : Spot) : Type 0 where
  pub fits_name : is_name (text_at (codes "shortName") x) ≡ true
  pub is_first : is_named_before lists (resolved kind x) (text_at (codes "shortName") x) (at_name (resolved kind x) x s.around) ≡ false

-- what is read at a key
pub text_there : (lists : Catalog) (x : Data) (kind : Kind) (s : Spot) (k : Key) (v : Value lists x kind s k) → text_at k.name x ≡ text_in v.value
text_there lists x kind s k v = ap (λ o. unwrap_or (option_and_then as_str o) []) v.there

short_from : (lists : Catalog) (x : Data) (kind : Kind) (s : Spot) → Value lists x kind s (needed "shortName" DeclaredName) → Short lists x kind s
short_from lists x kind s v =
    let at = inside s (resolved kind x) x (codes "shortName") in
    let name = name_value lists v.value DeclaredName at refl v.kept in
    let read : text_at (codes "shortName") x ≡ text_in v.value = text_there lists x kind s (needed "shortName" DeclaredName) v in
    record {
      fits_name = subst (λ t. is_name t ≡ true) (sym (read ∙ ap text_in name.is)) name.fits_name;
      is_first = subst (λ t. is_named_before lists (resolved kind x) t (at_name (resolved kind x) x s.around) ≡ false) (sym read) (repeated_here lists v.value DeclaredName at v.kept);
    }

pub same_key : (k : Key) (name : List ℕ) (kind : Kind) → k.is_needed ≡ true → k.name ≡ name → k.kind ≡ kind → k ≡ record { name = name; is_needed = true; kind = kind }
same_key k name kind a b c = λ i. record { name = b i; is_needed = a i; kind = c i }

pub short_name : (lists : Catalog) (x : Data) (kind : Kind) (s : Spot) → has_short (resolved kind x) ≡ true → Kept lists x kind s → Short lists x kind s
short_name lists x kind s h kept = by_case (or_cases _ _ (and_parts _ _ h).1)
  where
    at_n : (n : ℕ) (o : Option Key) → slice_get (keys_of (resolved kind x)) n ≡ o → is_short_key o ≡ true → Short lists x kind s
    at_n n None e is = absurd (false≢true is)
    at_n n (Some k) e is =
        let parts = and_parts _ _ is in
        let rest = and_parts _ _ parts.1 in
        let key_is = same_key k (codes "shortName") DeclaredName parts.0 ((bytes_eq-Decides k.name (codes "shortName")).0 rest.0) (short_kind k.kind rest.1) in
        short_from lists x kind s (needed_value lists x kind s n (needed "shortName" DeclaredName) (and_parts _ _ h).0 (e ∙ ap (λ j. Some j) key_is) refl kept)

    by_case : (short_at 0 (resolved kind x) ≡ true) ⊎ (short_at 1 (resolved kind x) ≡ true) → Short lists x kind s
    by_case (inl k) = at_n 0 _ refl k
    by_case (inr k) = at_n 1 _ refl k
