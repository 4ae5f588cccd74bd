-- The texts of accesses and positions tell what they are of.
use Rattle.std.proofs.Common.{◌≡◌, ℕ, ◌+◌, ◌%◌, ◌^◌, ◌<◌, List, [], ◌∷◌, ◌++◌, Bool, true, false, not, ◌&&◌, eqb, decimal, length, slice_index, refl, sym, ap, ◌∙◌, arith, true≢false}
use Rattle.std.specs.List.{list_all}
use Rattle.std.proofs.lemmas.Bool.{and_from, eq-eqb, ne_eqb}
use Rattle.std.proofs.lemmas.Fmt.{decimal_by_steps, decimal_is_IsNumeral}
use Rattle.std.proofs.lemmas.List.Folds.{list_all-append}
use Rattle.std.specs.Cmp.{first_so, second_so}
use Rattle.std.specs.Str.Parse.{digits_value}
use Rattle.serde_json.specs.Data.{Items, no_items, item}
use Rattle.description_places.specs.FirstPlaces.{parts_text, task_text}
use Rattle.declared_names.specs.Values.{text_in, texts_of}
use Rattle.description_shapes.specs.Names.{is_letter, is_letter_or_digit, is_name}
use Rattle.description_shapes.specs.Shape.{is_within}

-- the text has no such byte
abbrev has_no : ℕ → List ℕ → Bool
has_no byte text = list_all (λ b. not (eqb b byte)) text

-- a text with the byte in it is none without it
has_it : (byte : ℕ) (front back : List ℕ) → has_no byte ((front ++ byte ∷ []) ++ back) ≡ true → ⊥
has_it byte [] back h = true≢false (sym (first_so _ _ h) ∙ ap not (eq-eqb byte byte refl))
has_it byte (b ∷ front) back h = has_it byte front back (second_so _ _ h)

cons_head : {x y : ℕ} {xs ys : List ℕ} → ◌≡◌ {A = List ℕ} (x ∷ xs) (y ∷ ys) → x ≡ y
cons_head e = cc

cons_tail : {x y : ℕ} {xs ys : List ℕ} → ◌≡◌ {A = List ℕ} (x ∷ xs) (y ∷ ys) → xs ≡ ys
cons_tail e = cc

-- the last such byte parts a text
parted : (byte : ℕ) (front other back another : List ℕ) → has_no byte back ≡ true → has_no byte another ≡ true
    → (front ++ byte ∷ []) ++ back ≡ (other ++ byte ∷ []) ++ another → (front ≡ other) × (back ≡ another)
parted byte [] [] back another h k e = (refl, cons_tail e)
parted byte [] (c ∷ other) back another h k e = absurd (has_it byte other another (sym (ap (has_no byte) (cons_tail e)) ∙ h))
parted byte (b ∷ front) [] back another h k e = absurd (has_it byte front back (ap (has_no byte) (cons_tail e) ∙ k))
parted byte (b ∷ front) (c ∷ other) back another h k e =
    let rest = parted byte front other back another h k (cons_tail e) in
    ((λ j. cons_head e j ∷ rest.0 j), rest.1)

-- a name has no byte that is neither a letter nor a digit nor _
not_it : (byte b : ℕ) → is_letter_or_digit byte ≡ false → is_letter_or_digit b ≡ true → not (eqb b byte) ≡ true
not_it byte b out is = ap not (ne_eqb b byte (λ e. true≢false (sym is ∙ ap is_letter_or_digit e ∙ out)))

all_not : (byte : ℕ) (bs : List ℕ) → is_letter_or_digit byte ≡ false → list_all is_letter_or_digit bs ≡ true → has_no byte bs ≡ true
all_not byte [] out h = refl
all_not byte (b ∷ bs) out h = and_from _ _ (not_it byte b out (first_so _ _ h)) (all_not byte bs out (second_so _ _ h))

name_has_no : (byte : ℕ) (name : List ℕ) → is_letter_or_digit byte ≡ false → is_name name ≡ true → has_no byte name ≡ true
name_has_no byte name out h =
    all_not byte name out (second_so (is_within 1 32 (length name) && is_letter (slice_index name 0)) (list_all is_letter_or_digit name) h)

-- the first space parts a text that begins with a name
split_parts : (t u : List ℕ) (ds es : Items) → has_no 32 t ≡ true → has_no 32 u ≡ true → t ++ parts_text ds ≡ u ++ parts_text es → (t ≡ u) × (parts_text ds ≡ parts_text es)
split_parts [] [] ds es h k e = (refl, e)
split_parts [] (c ∷ u) no_items es h k e = absurd (nil_cons e)
  where
    nil_cons : {y : ℕ} {ys : List ℕ} → ◌≡◌ {A = List ℕ} [] (y ∷ ys) → ⊥
    nil_cons e = cc
split_parts [] (c ∷ u) (item d ds) es h k e = absurd (true≢false (sym (first_so _ _ k) ∙ ap not (eq-eqb c 32 (sym (cons_head e)))))
split_parts (b ∷ t) [] ds no_items h k e = absurd (cons_nil e)
  where
    cons_nil : {y : ℕ} {ys : List ℕ} → ◌≡◌ {A = List ℕ} (y ∷ ys) [] → ⊥
    cons_nil e = cc
split_parts (b ∷ t) [] ds (item x es) h k e = absurd (true≢false (sym (first_so _ _ h) ∙ ap not (eq-eqb b 32 (cons_head e))))
split_parts (b ∷ t) (c ∷ u) ds es h k e =
    let rest = split_parts t u ds es (second_so _ _ h) (second_so _ _ k) (cons_tail e) in
    ((λ j. cons_head e j ∷ rest.0 j), rest.1)

pub parts_told : (ds es : Items) → list_all is_name (texts_of ds) ≡ true → list_all is_name (texts_of es) ≡ true → parts_text ds ≡ parts_text es → texts_of ds ≡ texts_of es
parts_told no_items no_items h k e = refl
parts_told no_items (item x es) h k e = absurd (nil_cons e)
  where
    nil_cons : {y : ℕ} {ys : List ℕ} → ◌≡◌ {A = List ℕ} [] (y ∷ ys) → ⊥
    nil_cons e = cc
parts_told (item d ds) no_items h k e = absurd (cons_nil e)
  where
    cons_nil : {y : ℕ} {ys : List ℕ} → ◌≡◌ {A = List ℕ} (y ∷ ys) [] → ⊥
    cons_nil e = cc
parts_told (item d ds) (item x es) h k e =
    let rest = split_parts (text_in d) (text_in x) ds es (name_has_no 32 (text_in d) refl (first_so _ _ h)) (name_has_no 32 (text_in x) refl (first_so _ _ k)) (cons_tail e) in
    let later = parts_told ds es (second_so _ _ h) (second_so _ _ k) rest.1 in
    (λ j. rest.0 j ∷ later j)

-- the digits of a number
digit_has_no : (byte n : ℕ) → byte < 48 → has_no byte ((48 + n) ∷ []) ≡ true
digit_has_no byte n low = and_from _ _ (ap not (ne_eqb (48 + n) byte (λ e. omega arith))) refl

decimal_has_no : (byte n : ℕ) → byte < 48 → n < 2 ^ 64 → has_no byte (decimal n) ≡ true
decimal_has_no byte n low =
    decimal_by_steps (λ _ ds. has_no byte ds ≡ true) (λ m small. digit_has_no byte m low)
    (λ m ds large h. list_all-append _ ds ((48 + m % 10) ∷ []) ∙ and_from _ _ h (digit_has_no byte (m % 10) low)) n

pub position_told : (task other : List ℕ) (n m : ℕ) → is_name task ≡ true → is_name other ≡ true → n < 2 ^ 64 → m < 2 ^ 64 → task_text task n ≡ task_text other m → (task ≡ other) × (n ≡ m)
position_told task other n m h k n_fits m_fits e =
    let parts = parted 32 task other (decimal n) (decimal m) (decimal_has_no 32 n (omega arith) n_fits) (decimal_has_no 32 m (omega arith) m_fits) e in
    (parts.0, sym (decimal_is_IsNumeral n n_fits).1 ∙ ap (digits_value 10) parts.1 ∙ (decimal_is_IsNumeral m m_fits).1)
