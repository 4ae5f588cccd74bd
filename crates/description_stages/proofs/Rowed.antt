-- The parts of arrays with a fixed number of them, and the words that tell their kinds.
use Rattle.std.proofs.Common.{◌≡◌, ℕ, ◌<◌, List, [], ◌∷◌, length, Bool, true, false, cond, eqb, ltb, bytes_eq, Option, Some, None, refl, sym, ap, subst, ◌∙◌, ◌⊎◌, inl, inr}
use Rattle.bus_semantics.specs.Common.{find, slice_index_or, option_and_then, unwrap_or, false≢true, eqb-true, ltb-true, bytes_eq-Decides}
use Rattle.serde_json.specs.Data.{Data, null, boolean, number, string, array, object}
use Rattle.serde_json.specs.Events.{items_len}
use Rattle.serde_json.specs.Find.{as_str, at}
use Rattle.declared_names.specs.Values.{text_in, text_of_part}
use Rattle.description_shapes.specs.declared.form.Form.{Form}
use Rattle.description_shapes.specs.declared.form.Form.TheVariants as form
use Rattle.description_shapes.specs.declared.kind.Kind.{Kind}
use Rattle.description_shapes.specs.declared.kind.Kind.TheVariants as of_kind
use Rattle.description_shapes.specs.Alternatives.{Choice, first_word, kind_of, pick, pick_if, resolved}
use Rattle.description_places.specs.declared.catalogs.Catalog.{Catalog}
use Rattle.description_shapes.specs.Forms.{form_of}
use Rattle.description_shapes.specs.Rows.{row_of}
use Rattle.description_shapes.specs.Shape.{fits, holds, part_count}
use Rattle.description_shapes.specs.Spots.{Spot, inside_part}
use Rattle.description_shapes.specs.Visits.{part_of}
use Rattle.description_stages.proofs.Kept.{Kept, kept_part, shape_here}
use Rattle.description_stages.proofs.Lists.{IsIn, some_item}

-- ---- the kind that a word picks

pub record Picked (cs : List Choice) (word : List ℕ) (kind : Kind) : Type 0 where
  pub choice : Choice
  pub one : IsIn choice cs
  pub word_is : choice.word ≡ word
  pub kind_is : kind ≡ choice.kind

pick_cases : (cs : List Choice) (other : Kind) (word : List ℕ) → Picked cs word (pick cs other word) ⊎ (pick cs other word ≡ other)
pick_cases [] other word = inr refl
pick_cases (c ∷ cs) other word = by_test (bytes_eq c.word word) refl (pick_cases cs other word)
  where
    by_test : (b : Bool) → bytes_eq c.word word ≡ b → Picked cs word (pick cs other word) ⊎ (pick cs other word ≡ other) → Picked (c ∷ cs) word (pick (c ∷ cs) other word) ⊎ (pick (c ∷ cs) other word ≡ other)
    by_test true e more = inl (record {
      choice = c;
      one = inl refl;
      word_is = (bytes_eq-Decides c.word word).0 e;
      kind_is = ap (λ b. kind_of other (cond b (Some c) (find (λ c. bytes_eq c.word word) cs))) e;
    })
    by_test false e (inl p) = inl (record {
      choice = p.choice;
      one = inr p.one;
      word_is = p.word_is;
      kind_is = ap (λ b. kind_of other (cond b (Some c) (find (λ c. bytes_eq c.word word) cs))) e ∙ p.kind_is;
    })
    by_test false e (inr h) = inr (ap (λ b. kind_of other (cond b (Some c) (find (λ c. bytes_eq c.word word) cs))) e ∙ h)

-- an array whose first word picks its kind
pub record Spoken (x : Data) (cs : List Choice) (kind : Kind) : Type 0 where
  pub word : List ℕ
  pub there : first_word x ≡ Some word
  pub picked : Picked cs word kind

pub spoken : (x : Data) (cs : List Choice) (other : Kind) → (pick_if cs other (first_word x) ≡ other → ⊥) → Spoken x cs (pick_if cs other (first_word x))
spoken x cs other known = by_word (first_word x) refl
  where
    by_word : (o : Option (List ℕ)) → first_word x ≡ o → Spoken x cs (pick_if cs other (first_word x))
    by_word None e = absurd (known (ap (pick_if cs other) e))
    by_word (Some w) e = by_case (pick_cases cs other w)
      where
        by_case : Picked cs w (pick cs other w) ⊎ (pick cs other w ≡ other) → Spoken x cs (pick_if cs other (first_word x))
        by_case (inl p) = record { word = w; there = e; picked = record { choice = p.choice; one = p.one; word_is = p.word_is; kind_is = ap (pick_if cs other) e ∙ p.kind_is } }
        by_case (inr h) = absurd (known (ap (pick_if cs other) e ∙ h))

-- a kind of no value is not found
pub never_nothing : (lists : Catalog) (x : Data) (kind : Kind) (s : Spot) → Kept lists x kind s → (other : Kind) → form_of other ≡ form.Nothing → resolved kind x ≡ other → ⊥
never_nothing lists x kind s kept other nothing e =
    false≢true (subst (λ f. fits f other x ≡ true) nothing (subst (λ k. fits (form_of k) k x ≡ true) e (shape_here lists x kind s kept)))

-- ---- parts of a row

pub record PartAt (lists : Catalog) (x : Data) (kind part : Kind) (s : Spot) (n : ℕ) : Type 0 where
  pub value : Data
  pub there : at n x ≡ Some value
  pub kept : Kept lists value part (inside_part s (resolved kind x) x n)

row_form : (f : Form) (kind : Kind) (x : Data) → f ≡ form.Row → fits f kind x ≡ true → holds (λ n. eqb n (length (row_of kind))) (part_count x) ≡ true
row_form f kind x e h = subst (λ f. fits f kind x ≡ true) e h

pub row_part : (lists : Catalog) (x : Data) (kind : Kind) (s : Spot) (n : ℕ) → form_of (resolved kind x) ≡ form.Row → ltb n (length (row_of (resolved kind x))) ≡ true → Kept lists x kind s
    → PartAt lists x kind (slice_index_or (row_of (resolved kind x)) n of_kind.Anything) s n
row_part lists x kind s n is_row low kept = by_value x is_row low kept (row_form (form_of (resolved kind x)) (resolved kind x) x is_row (shape_here lists x kind s kept))
  where
    by_value : (x : Data) → form_of (resolved kind x) ≡ form.Row → ltb n (length (row_of (resolved kind x))) ≡ true → Kept lists x kind s → holds (λ n. eqb n (length (row_of (resolved kind x)))) (part_count x) ≡ true
        → PartAt lists x kind (slice_index_or (row_of (resolved kind x)) n of_kind.Anything) s n
    by_value null r l k h = absurd (false≢true h)
    by_value (boolean b) r l k h = absurd (false≢true h)
    by_value (number m) r l k h = absurd (false≢true h)
    by_value (string t) r l k h = absurd (false≢true h)
    by_value (object ms) r l k h = absurd (false≢true h)
    by_value (array ps) r l k h =
        let found = resolved kind (array ps) in
        let long : items_len ps ≡ length (row_of found) = eqb-true (items_len ps) (length (row_of found)) h in
        let below : n < length (row_of found) = ltb-true n (length (row_of found)) l in
        let v = some_item ps n (subst (λ m. n < m) (sym long) below) in
        record {
          value = v.0;
          there = v.1;
          kept = subst (λ f. Kept lists v.0 (part_of f found n) (inside_part s found (array ps) n)) r (kept_part lists ps kind s n v.0 k v.1);
        }

-- what is read of a part
pub part_text : (lists : Catalog) (x : Data) (kind part : Kind) (s : Spot) (n : ℕ) (v : PartAt lists x kind part s n) → text_of_part n x ≡ text_in v.value
part_text lists x kind part s n v = ap (λ o. unwrap_or (option_and_then as_str o) []) v.there
