-- Whether a value has the shape of its kind. Of what it holds only the keys and the number of parts are looked at: each
-- value inside is judged for itself.
use Rattle.std.specs.Prelude.{ℕ, List, length, Bool, true, false, not, ◌&&◌, ◌||◌, nat_le, ◌==◌, Option, Some, None, is_some, option_map, option_and_then, bytes_eq}
use Rattle.std.specs.List.{list_any, list_all}
use Rattle.serde_json.specs.Data.{Data, Members, no_members, member}
use Rattle.serde_json.specs.Events.{items_len}
use Rattle.serde_json.specs.Find.{get_member, as_object, as_array, as_str, as_number, as_bool, as_i64, as_u64}
use Rattle.description_shapes.specs.declared.form.Form.{Form}
use Rattle.description_shapes.specs.declared.form.Form.TheVariants as form
use Rattle.description_shapes.specs.declared.kind.Kind.{Kind}
use Rattle.description_shapes.specs.Forms.{form_of}
use Rattle.description_shapes.specs.Keys.{Key, keys_of}
use Rattle.description_shapes.specs.Rows.{row_of, words_of}

-- whether something is there, and meets the test
abbrev pub holds : {A : Type 0} → (A → Bool) → Option A → Bool
holds test None = false
holds test (Some x) = test x

-- no needed key is missing
abbrev pub has_needed : List Key → Members → Bool
has_needed ks ms = list_all (λ k. not k.is_needed || is_some (get_member k.name ms)) ks

abbrev pub is_key : List Key → List ℕ → Bool
is_key ks name = list_any (λ k. bytes_eq k.name name) ks

-- no key is unknown
abbrev pub has_only : List Key → Members → Bool
has_only ks no_members = true
has_only ks (member name d ms) = is_key ks name && has_only ks ms

abbrev pub is_among : List (List ℕ) → List ℕ → Bool
is_among words text = list_any (λ word. bytes_eq word text) words

abbrev pub is_within : ℕ → ℕ → ℕ → Bool
is_within least most n = nat_le least n && nat_le n most

-- how many parts an array has
abbrev pub part_count : Data → Option ℕ
part_count d = option_map items_len (as_array d)

-- the shape of a value of the form
abbrev pub fits : Form → Kind → Data → Bool
fits form.Anything kind d = true
fits form.Nothing kind d = false
fits form.Object kind d = holds (λ ms. has_needed (keys_of kind) ms && has_only (keys_of kind) ms) (as_object d)
fits (form.List _) kind d = is_some (as_array d)
fits (form.Counted least most _) kind d = holds (is_within least most) (part_count d)
fits form.Row kind d = holds (λ n. n == length (row_of kind)) (part_count d)
fits form.Name kind d = is_some (as_str d)
fits form.Text kind d = is_some (as_str d)
fits form.Word kind d = holds (is_among (words_of kind)) (as_str d)
fits form.Int kind d = is_some (option_and_then as_i64 (as_number d))
fits (form.Range least most) kind d = holds (is_within least most) (option_and_then as_u64 (as_number d))
fits form.Flag kind d = is_some (as_bool d)

abbrev pub has_shape : Kind → Data → Bool
has_shape kind d = fits (form_of kind) kind d
