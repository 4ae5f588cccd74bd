-- What programs keep: the variables that they name are among theirs, and counts are in range.
use Rattle.std.proofs.Common.{◌≡◌, ℕ, zero, suc, ◌+◌, ◌<◌, ◌≤◌, ◌^◌, List, [], ◌∷◌, ◌++◌, map, length, Bool, true, false, ◌&&◌, ◌||◌, leb, ltb, cond, bytes_eq, codes, Option, Some, None}
use Rattle.std.proofs.Common.{refl, sym, ap, subst, arith, ◌∙◌, ◌⊎◌, inl, inr}
use Rattle.bus_semantics.specs.Common.{list_all, list_any, slice_get, slice_index_or, option_and_then, unwrap_or, and_parts, and_from, false≢true, leb-true, le-leb, lt-ltb, ltb-true}
use Rattle.bus_semantics.specs.Common.{or_left, or_right, list_all-append, list_any-append, none-some, same_Some, bytes_eq-Decides, StmtTree, each_in, each_of, expr_sound, gives}
use Rattle.bus_semantics.specs.Common.{is_in_range, is_well_formed, takes}
use Rattle.std.proofs.lemmas.Bool.{cond_both}
use Rattle.serde_json.specs.Data.{Data, null, boolean, number, string, array, object, Items, no_items, item}
use Rattle.serde_json.specs.Find.{as_array, as_number, as_str, as_u64, get, get_item}
use Rattle.runnable_lang.specs.Trees.{in_order}
use Rattle.description_shapes.specs.declared.form.Form.TheVariants as form
use Rattle.description_shapes.specs.declared.kind.Kind.{Kind}
use Rattle.description_shapes.specs.declared.kind.Kind.TheVariants as of_kind
use Rattle.description_shapes.specs.Alternatives.{Choice, choices_of, resolved}
use Rattle.description_places.specs.declared.catalogs.Catalog.{Catalog}
use Rattle.description_shapes.specs.Forms.{form_of}
use Rattle.description_shapes.specs.Keys.{optional}
use Rattle.description_shapes.specs.Rows.{row_of}
use Rattle.description_shapes.specs.Shape.{holds, is_within}
use Rattle.description_shapes.specs.Spots.{Spot, inside, inside_part}
use Rattle.description_shapes.specs.Visits.{part_of}
use Rattle.declared_names.specs.declared.in_component.ComponentNames.{ComponentNames}
use Rattle.declared_names.specs.declared.scopes.InterfaceNames.{InterfaceNames}
use Rattle.declared_names.specs.Names.{Names, position_in}
use Rattle.declared_names.specs.Values.{below as under, items_of, text_in, text_of_part}
use Rattle.program_reading.specs.declared.keywords.Keyword.{Keyword}
use Rattle.program_reading.specs.declared.keywords.Keyword.TheVariants as keyword
use Rattle.program_reading.specs.Expressions.{expr_of, expr_reading, expr_readings}
use Rattle.program_reading.specs.Keywords.{keyword_of}
use Rattle.program_reading.specs.Programs.{program_reading}
use Rattle.program_reading.specs.Statements.{block, blocks, body_part, Context, expr_part, expr_seen, exprs_part, statement, times_part, var_part, vars_part}
use Rattle.program_reading.specs.Variables.{added, all_added, among_parts, names_in, names_in_each, variables_of}
use Rattle.description_stages.proofs.Shapes.{on_array}
use Rattle.description_stages.proofs.Kept.{Kept, kept_part, shape_here}
use Rattle.description_stages.proofs.Lists.{IsIn}
use Rattle.description_stages.proofs.Naming.{all_listed}
use Rattle.description_stages.proofs.Readings.{below_is}
use Rattle.description_stages.proofs.Rowed.{never_nothing, row_part, Spoken, spoken}
use Rattle.description_stages.proofs.Shorts.{name_value, optional_value, Value}

-- ---- the variables of a program have each name that it names

abbrev pub has : Names → List ℕ → Bool
has vars t = list_any (λ n. bytes_eq n t) vars

has_more : (vars more : Names) (t : List ℕ) → has vars t ≡ true → has (vars ++ more) t ≡ true
has_more vars more t h = list_any-append (λ n. bytes_eq n t) vars more ∙ or_left (has vars t) (has more t) h

has_itself : (vars : Names) (t : List ℕ) → has (vars ++ t ∷ []) t ≡ true
has_itself vars t = list_any-append (λ n. bytes_eq n t) vars (t ∷ []) ∙ or_right (has vars t) _ (or_left (bytes_eq t t) false ((bytes_eq-Decides t t).1 refl))

flipped : (vars : Names) (t : List ℕ) → list_any (bytes_eq t) vars ≡ true → has vars t ≡ true
flipped [] t h = absurd (false≢true h)
flipped (n ∷ vars) t h = by_first (bytes_eq t n) refl h (flipped vars t)
  where
    by_first : (b : Bool) → bytes_eq t n ≡ b → (b || list_any (bytes_eq t) vars) ≡ true → (list_any (bytes_eq t) vars ≡ true → has vars t ≡ true) → has (n ∷ vars) t ≡ true
    by_first true e h more = or_left (bytes_eq n t) (has vars t) ((bytes_eq-Decides n t).1 (sym ((bytes_eq-Decides t n).0 e)))
    by_first false e h more = or_right (bytes_eq n t) (has vars t) (more h)

added_has : (vars : Names) (t : List ℕ) → has (added vars t) t ≡ true
added_has vars t = cond_both (list_any (bytes_eq t) vars) vars (vars ++ t ∷ []) (λ vs. has vs t ≡ true) (flipped vars t) (λ h. has_itself vars t)

added_keeps : (vars : Names) (t u : List ℕ) → has vars u ≡ true → has (added vars t) u ≡ true
added_keeps vars t u h = cond_both (list_any (bytes_eq t) vars) vars (vars ++ t ∷ []) (λ vs. has vs u ≡ true) (λ is. h) (λ is. has_more vars (t ∷ []) u h)

all_keep : (vars ns : Names) (u : List ℕ) → has vars u ≡ true → has (all_added vars ns) u ≡ true
all_keep vars [] u h = h
all_keep vars (n ∷ ns) u h = all_keep (added vars n) ns u (added_keeps vars n u h)

pub all_has : (vars ns : Names) → list_all (has (all_added vars ns)) ns ≡ true
all_has vars [] = refl
all_has vars (n ∷ ns) = and_from _ _ (all_keep (added vars n) ns n (added_has vars n)) (all_has (added vars n) ns)

pub has_position : (vars : Names) (t : List ℕ) → has vars t ≡ true → ltb (position_in vars t) (length vars) ≡ true
has_position [] t h = absurd (false≢true h)
has_position (n ∷ vars) t h = by_first (bytes_eq n t) refl h (has_position vars t)
  where
    by_first : (b : Bool) → bytes_eq n t ≡ b → (b || has vars t) ≡ true → (has vars t ≡ true → ltb (position_in vars t) (length vars) ≡ true) → ltb (position_in (n ∷ vars) t) (length (n ∷ vars)) ≡ true
    by_first true e h more = ap (λ b. ltb (cond b 0 (1 + position_in vars t)) (suc (length vars))) e ∙ lt-ltb 0 (suc (length vars)) (omega arith)
    by_first false e h more =
        let low : position_in vars t < length vars = ltb-true _ _ (more h) in
        ap (λ b. ltb (cond b 0 (1 + position_in vars t)) (suc (length vars))) e ∙ lt-ltb (1 + position_in vars t) (suc (length vars)) (omega arith)

-- ---- the keywords

word_set : keyword_of (codes "set") ≡ keyword.Set
unfolding keyword_of
word_set = refl

word_if : keyword_of (codes "if") ≡ keyword.If
unfolding keyword_of
word_if = refl

word_repeat : keyword_of (codes "repeat") ≡ keyword.Repeat
unfolding keyword_of
word_repeat = refl

word_area : keyword_of (codes "area") ≡ keyword.Area
unfolding keyword_of
word_area = refl

word_write : keyword_of (codes "write") ≡ keyword.Write
unfolding keyword_of
word_write = refl

word_read : keyword_of (codes "read") ≡ keyword.Read
unfolding keyword_of
word_read = refl

word_invalidate : keyword_of (codes "invalidate") ≡ keyword.Invalidate
unfolding keyword_of
word_invalidate = refl

word_updated : keyword_of (codes "isUpdated") ≡ keyword.IsUpdated
unfolding keyword_of
word_updated = refl

word_send : keyword_of (codes "send") ≡ keyword.Send
unfolding keyword_of
word_send = refl

word_receive : keyword_of (codes "receive") ≡ keyword.Receive
unfolding keyword_of
word_receive = refl

word_iwrite : keyword_of (codes "iwrite") ≡ keyword.IWrite
unfolding keyword_of
word_iwrite = refl

word_iread : keyword_of (codes "iread") ≡ keyword.IRead
unfolding keyword_of
word_iread = refl

word_irv_write : keyword_of (codes "irvWrite") ≡ keyword.IrvWrite
unfolding keyword_of
word_irv_write = refl

word_irv_read : keyword_of (codes "irvRead") ≡ keyword.IrvRead
unfolding keyword_of
word_irv_read = refl

word_irv_iwrite : keyword_of (codes "irvIWrite") ≡ keyword.IrvIWrite
unfolding keyword_of
word_irv_iwrite = refl

word_irv_iread : keyword_of (codes "irvIRead") ≡ keyword.IrvIRead
unfolding keyword_of
word_irv_iread = refl

word_call : keyword_of (codes "call") ≡ keyword.Call
unfolding keyword_of
word_call = refl

word_acall : keyword_of (codes "acall") ≡ keyword.ACall
unfolding keyword_of
word_acall = refl

word_result : keyword_of (codes "result") ≡ keyword.TakeResult
unfolding keyword_of
word_result = refl

word_switch : keyword_of (codes "switch") ≡ keyword.Switch
unfolding keyword_of
word_switch = refl

word_mode : keyword_of (codes "mode") ≡ keyword.Mode
unfolding keyword_of
word_mode = refl

-- ---- parts

names_part : (test : List ℕ → Bool) (kinds : ℕ → Kind) (j : ℕ) (ps : Items) (i : ℕ) (x : Data) → list_all test (among_parts kinds j (names_in_each ps)) ≡ true → get_item i ps ≡ Some x
    → list_all test (names_in x (kinds (j + i))) ≡ true
names_part test kinds j no_items i x h is = absurd (none-some x is)
names_part test kinds j (item p ps) zero x h is =
    let start : j ≡ j + 0 = omega arith in
    subst (λ n. list_all test (names_in x (kinds n)) ≡ true) start
    (subst (λ y. list_all test (names_in y (kinds j)) ≡ true) (same_Some p x is)
    (and_parts (list_all test (names_in p (kinds j))) (list_all test (among_parts kinds (j + 1) (names_in_each ps))) (sym (list_all-append test (names_in p (kinds j)) (among_parts kinds (j + 1) (names_in_each ps))) ∙ h)).0)
names_part test kinds j (item p ps) (suc i) x h is =
    let next : (j + 1) + i ≡ j + suc i = omega arith in
    subst (λ n. list_all test (names_in x (kinds n)) ≡ true) next
    (names_part test kinds (j + 1) ps i x
    (and_parts (list_all test (names_in p (kinds j))) (list_all test (among_parts kinds (j + 1) (names_in_each ps))) (sym (list_all-append test (names_in p (kinds j)) (among_parts kinds (j + 1) (names_in_each ps))) ∙ h)).1 is)

slice_blocks : (ps : Items) (n : ℕ) (x : Data) → get_item n ps ≡ Some x → slice_get (blocks ps) n ≡ Some (block x)
slice_blocks no_items n x h = absurd (none-some x h)
slice_blocks (item p ps) zero x h = ap (λ y. Some (block y)) (same_Some p x h)
slice_blocks (item p ps) (suc n) x h = slice_blocks ps n x h

slice_exprs : (ps : Items) (n : ℕ) (x : Data) → get_item n ps ≡ Some x → slice_get (expr_readings ps) n ≡ Some (expr_reading x)
slice_exprs no_items n x h = absurd (none-some x h)
slice_exprs (item p ps) zero x h = ap (λ y. Some (expr_reading y)) (same_Some p x h)
slice_exprs (item p ps) (suc n) x h = slice_exprs ps n x h

-- a value that is kept, and whose names the variables have
pub record Well (lists : Catalog) (vars : Names) (x : Data) (kind : Kind) (s : Spot) : Type 0 where
  pub kept : Kept lists x kind s
  pub named : list_all (has vars) (names_in x kind) ≡ true

-- such a part of an array
pub record WellPart (lists : Catalog) (vars : Names) (ps : Items) (part : Kind) (n : ℕ) : Type 0 where
  pub value : Data
  pub spot : Spot
  pub there : get_item n ps ≡ Some value
  pub well : Well lists vars value part spot

module _ (lists : Catalog) (vars : Names) where
  part_named : (ps : Items) (kind : Kind) (n : ℕ) (x : Data) → list_all (has vars) (names_in (array ps) kind) ≡ true → get_item n ps ≡ Some x
      → list_all (has vars) (names_in x (part_of (form_of (resolved kind (array ps))) (resolved kind (array ps)) n)) ≡ true
  part_named ps kind n x h is =
      let found = resolved kind (array ps) in
      let start : 0 + n ≡ n = omega arith in
      subst (λ m. list_all (has vars) (names_in x (part_of (form_of found) found m)) ≡ true) start (names_part (has vars) (part_of (form_of found) found) 0 ps n x h is)

  row_well : (ps : Items) (kind other : Kind) (s : Spot) (n : ℕ) → resolved kind (array ps) ≡ other → form_of other ≡ form.Row → ltb n (length (row_of other)) ≡ true → Well lists vars (array ps) kind s
      → WellPart lists vars ps (slice_index_or (row_of other) n of_kind.Anything) n
  row_well ps kind other s n found row low w =
      let found_row : form_of (resolved kind (array ps)) ≡ form.Row = ap form_of found ∙ row in
      let v = row_part lists (array ps) kind s n found_row (ap (λ k. ltb n (length (row_of k))) found ∙ low) w.kept in
      record {
        value = v.value;
        spot = inside_part s (resolved kind (array ps)) (array ps) n;
        there = v.there;
        well = record {
          kept = subst (λ k. Kept lists v.value (slice_index_or (row_of k) n of_kind.Anything) (inside_part s (resolved kind (array ps)) (array ps) n)) found v.kept;
          named = subst (λ k. list_all (has vars) (names_in v.value (slice_index_or (row_of k) n of_kind.Anything)) ≡ true) found
              (subst (λ f. list_all (has vars) (names_in v.value (part_of f (resolved kind (array ps)) n)) ≡ true) found_row (part_named ps kind n v.value w.named v.there));
        };
      }

  item_well : (ps : Items) (kind part : Kind) (s : Spot) → ((n : ℕ) → part_of (form_of (resolved kind (array ps))) (resolved kind (array ps)) n ≡ part) → Well lists vars (array ps) kind s → (n : ℕ) (x : Data) → get_item n ps ≡ Some x
      → Well lists vars x part (inside_part s (resolved kind (array ps)) (array ps) n)
  item_well ps kind _ s parts w n x is = record {
    kept = subst (λ k. Kept lists x k (inside_part s (resolved kind (array ps)) (array ps) n)) (parts n) (kept_part lists ps kind s n x w.kept is);
    named = subst (λ k. list_all (has vars) (names_in x k) ≡ true) (parts n) (part_named ps kind n x w.named is);
  }

  -- ---- variables

  local_low : (x : Data) (s : Spot) → Well lists vars x of_kind.LocalName s → ltb (position_in vars (text_in x)) (length vars) ≡ true
  local_low x s w =
      let name = name_value lists x of_kind.LocalName s refl w.kept in
      let named : list_all (has vars) (names_in (string name.text) of_kind.LocalName) ≡ true = subst (λ y. list_all (has vars) (names_in y of_kind.LocalName) ≡ true) name.is w.named in
      ap (λ y. ltb (position_in vars (text_in y)) (length vars)) name.is ∙ has_position vars name.text (and_parts (has vars name.text) true named).0

  locals_low : (x : Data) (s : Spot) → Well lists vars x of_kind.LocalNames s → takes (length vars) (map (λ v. position_in vars (text_in v)) (items_of (as_array x))) ≡ true
  locals_low x s w =
      on_array (λ y. Well lists vars y of_kind.LocalNames s → takes (length vars) (map (λ v. position_in vars (text_in v)) (items_of (as_array y))) ≡ true)
      (λ ps w. all_listed (λ v. ltb v (length vars)) (λ v. position_in vars (text_in v)) ps (λ n y is.
      local_low y (inside_part s of_kind.LocalNames (array ps) n) (item_well ps of_kind.LocalNames of_kind.LocalName s (λ n. refl) w n y is)))
      x (shape_here lists x of_kind.LocalNames s w.kept) w

  -- ---- expressions

  operator_parts : (ps : Items) (s : Spot) → Well lists vars (array ps) of_kind.Expression s → WellPart lists vars ps of_kind.Expression 1 × WellPart lists vars ps of_kind.Expression 2
  operator_parts ps s w = by_choice (spoken (array ps) (choices_of of_kind.Expression) of_kind.UnknownExpression (never_nothing lists (array ps) of_kind.Expression s w.kept of_kind.UnknownExpression refl))
    where
      operator : (k : Kind) → resolved of_kind.Expression (array ps) ≡ of_kind.Operator → WellPart lists vars ps of_kind.Expression 1 × WellPart lists vars ps of_kind.Expression 2
      operator k e = (row_well ps of_kind.Expression of_kind.Operator s 1 e refl refl w, row_well ps of_kind.Expression of_kind.Operator s 2 e refl refl w)

      by_choice : Spoken (array ps) (choices_of of_kind.Expression) (resolved of_kind.Expression (array ps)) → WellPart lists vars ps of_kind.Expression 1 × WellPart lists vars ps of_kind.Expression 2
      by_choice f = by_case f.picked.one
        where
          found : (k : Choice) → f.picked.choice ≡ k → resolved of_kind.Expression (array ps) ≡ k.kind
          found k e = f.picked.kind_is ∙ ap (λ (j : Choice). j.kind) e

          by_case : IsIn f.picked.choice (choices_of of_kind.Expression) → WellPart lists vars ps of_kind.Expression 1 × WellPart lists vars ps of_kind.Expression 2
          by_case (inl e) = operator of_kind.Operator (found _ e)
          by_case (inr (inl e)) = operator of_kind.Operator (found _ e)
          by_case (inr (inr (inl e))) = operator of_kind.Operator (found _ e)
          by_case (inr (inr (inr (inl e)))) = operator of_kind.Operator (found _ e)
          by_case (inr (inr (inr (inr (inl e))))) = operator of_kind.Operator (found _ e)
          by_case (inr (inr (inr (inr (inr (inl e)))))) = operator of_kind.Operator (found _ e)
          by_case (inr (inr (inr (inr (inr (inr (inl e))))))) = operator of_kind.Operator (found _ e)
          by_case (inr (inr (inr (inr (inr (inr (inr (inl e)))))))) = operator of_kind.Operator (found _ e)
          by_case (inr (inr (inr (inr (inr (inr (inr (inr none)))))))) = absurd none

  both_sound : (ps : Items) (p : WellPart lists vars ps of_kind.Expression 1) (q : WellPart lists vars ps of_kind.Expression 2)
      → expr_sound (length vars) (expr_reading p.value vars) ≡ true → expr_sound (length vars) (expr_reading q.value vars) ≡ true → expr_sound (length vars) (expr_reading (array ps) vars) ≡ true
  both_sound ps p q a b = and_from _ _
      (ap (λ o. expr_sound (length vars) (expr_of vars o)) (slice_exprs ps 1 p.value p.there) ∙ a)
      (ap (λ o. expr_sound (length vars) (expr_of vars o)) (slice_exprs ps 2 q.value q.there) ∙ b)

  mutual
    expression_sound : (x : Data) (s : Spot) → Well lists vars x of_kind.Expression s → expr_sound (length vars) (expr_reading x vars) ≡ true
    expression_sound null s w = refl
    expression_sound (boolean b) s w = refl
    expression_sound (number n) s w = refl
    expression_sound (string t) s w = has_position vars t (and_parts (has vars t) true w.named).0
    expression_sound (array ps) s w =
        let parts = operator_parts ps s w in
        both_sound ps parts.0 parts.1 (expression_at ps 1 parts.0.value parts.0.spot parts.0.there parts.0.well) (expression_at ps 2 parts.1.value parts.1.spot parts.1.there parts.1.well)
    expression_sound (object ms) s w = refl

    expression_at : (ps : Items) (n : ℕ) (x : Data) (s : Spot) → get_item n ps ≡ Some x → Well lists vars x of_kind.Expression s → expr_sound (length vars) (expr_reading x vars) ≡ true
    expression_at no_items n x s is w = absurd (none-some x is)
    expression_at (item p ps) zero x s is w =
        subst (λ y. expr_sound (length vars) (expr_reading y vars) ≡ true) (same_Some p x is) (expression_sound p s (subst (λ y. Well lists vars y of_kind.Expression s) (sym (same_Some p x is)) w))
    expression_at (item p ps) (suc n) x s is w = expression_at ps n x s is w

  expressions_sound : (x : Data) (s : Spot) → Well lists vars x of_kind.Expressions s → gives (length vars) (map (λ e. expr_reading e vars) (items_of (as_array x))) ≡ true
  expressions_sound x s w =
      on_array (λ y. Well lists vars y of_kind.Expressions s → gives (length vars) (map (λ e. expr_reading e vars) (items_of (as_array y))) ≡ true)
      (λ ps w. all_listed (expr_sound (length vars)) (λ e. expr_reading e vars) ps (λ n y is.
      expression_sound y (inside_part s of_kind.Expressions (array ps) n) (item_well ps of_kind.Expressions of_kind.Expression s (λ n. refl) w n y is)))
      x (shape_here lists x of_kind.Expressions s w.kept) w

  -- ---- statements

  module _ (interfaces : InterfaceNames) (names : ComponentNames) where
    abbrev context : Context
    context = record { interfaces = interfaces; names = names; vars = vars }

    abbrev test : List ℕ → StmtTree → Bool
    test areas s = is_in_range (length vars) s

    module _ (ps : Items) (s : Spot) (w : Well lists vars (array ps) of_kind.Statement s)
        (body : (n : ℕ) (x : Data) (t : Spot) (areas : List ℕ) → get_item n ps ≡ Some x → Well lists vars x of_kind.Statements t → each_of test areas ((block x).body context) ≡ true) where
      abbrev Is : Kind → Type 0
      Is other = resolved of_kind.Statement (array ps) ≡ other

      var_low : (other : Kind) (n : ℕ) → Is other → form_of other ≡ form.Row → ltb n (length (row_of other)) ≡ true → slice_index_or (row_of other) n of_kind.Anything ≡ of_kind.LocalName → takes (length vars) (var_part context n (array ps) ∷ []) ≡ true
      var_low other n is row low part_is =
          let p = row_well ps of_kind.Statement other s n is row low w in
          and_from _ _ (ap (λ o. ltb (position_in vars (unwrap_or (option_and_then as_str o) [])) (length vars)) p.there ∙ local_low p.value p.spot (subst (λ k. Well lists vars p.value k p.spot) part_is p.well)) refl

      vars_low : (other : Kind) (n : ℕ) → Is other → form_of other ≡ form.Row → ltb n (length (row_of other)) ≡ true → slice_index_or (row_of other) n of_kind.Anything ≡ of_kind.LocalNames → takes (length vars) (vars_part context n (array ps)) ≡ true
      vars_low other n is row low part_is =
          let p = row_well ps of_kind.Statement other s n is row low w in
          ap (λ o. takes (length vars) (map (λ v. position_in vars (text_in v)) (items_of (option_and_then as_array o)))) p.there ∙ locals_low p.value p.spot (subst (λ k. Well lists vars p.value k p.spot) part_is p.well)

      exprs_low : (other : Kind) (n : ℕ) → Is other → form_of other ≡ form.Row → ltb n (length (row_of other)) ≡ true → slice_index_or (row_of other) n of_kind.Anything ≡ of_kind.Expressions → gives (length vars) (exprs_part context n (array ps)) ≡ true
      exprs_low other n is row low part_is =
          let p = row_well ps of_kind.Statement other s n is row low w in
          ap (λ o. gives (length vars) (map (λ e. expr_reading e vars) (items_of (option_and_then as_array o)))) p.there ∙ expressions_sound p.value p.spot (subst (λ k. Well lists vars p.value k p.spot) part_is p.well)

      expr_low : (other : Kind) (n : ℕ) → Is other → form_of other ≡ form.Row → ltb n (length (row_of other)) ≡ true → slice_index_or (row_of other) n of_kind.Anything ≡ of_kind.Expression → expr_sound (length vars) (expr_part context n (array ps)) ≡ true
      expr_low other n is row low part_is =
          let p = row_well ps of_kind.Statement other s n is row low w in
          ap (λ o. expr_sound (length vars) (expr_seen vars o)) p.there ∙ expression_sound p.value p.spot (subst (λ k. Well lists vars p.value k p.spot) part_is p.well)

      body_low : (other : Kind) (n : ℕ) (areas : List ℕ) → Is other → form_of other ≡ form.Row → ltb n (length (row_of other)) ≡ true → slice_index_or (row_of other) n of_kind.Anything ≡ of_kind.Statements
          → each_of test areas (body_part context (slice_get (blocks ps) n)) ≡ true
      body_low other n areas is row low part_is =
          let p = row_well ps of_kind.Statement other s n is row low w in
          ap (λ o. each_of test areas (body_part context o)) (slice_blocks ps n p.value p.there) ∙ body n p.value p.spot areas p.there (subst (λ k. Well lists vars p.value k p.spot) part_is p.well)

      times_low : Is of_kind.RepeatStatement → leb (times_part (array ps)) 1000 ≡ true
      times_low is =
          let p = row_well ps of_kind.Statement of_kind.RepeatStatement s 1 is refl refl w in
          ap (λ o. leb (under (2 ^ 32) 0 (option_and_then as_u64 (option_and_then as_number o))) 1000) p.there ∙ few (option_and_then as_u64 (as_number p.value)) (shape_here lists p.value of_kind.RepeatCount p.spot p.well.kept)
        where
          few : (o : Option ℕ) → holds (is_within 0 1000) o ≡ true → leb (under (2 ^ 32) 0 o) 1000 ≡ true
          few None h = absurd (false≢true h)
          few (Some n) h =
              let low : n ≤ 1000 = leb-true n 1000 (and_parts (leb 0 n) (leb n 1000) h).1 in
              ap (λ m. leb m 1000) (below_is (2 ^ 32) 0 n (omega arith)) ∙ le-leb n 1000 low

      cons_low : (v : ℕ) (vs : List ℕ) → takes (length vars) (v ∷ []) ≡ true → takes (length vars) vs ≡ true → takes (length vars) (v ∷ vs) ≡ true
      cons_low v vs h k = and_from _ _ (and_parts (ltb v (length vars)) true h).0 k

      abbrev Sound : Keyword → List ℕ → Type 0
      Sound k areas = each_in test areas (statement k context (array ps) (blocks ps)) ≡ true

      giving : Is of_kind.GivingStatement → (gives (length vars) (exprs_part context 3 (array ps)) && takes (length vars) (var_part context 4 (array ps) ∷ [])) ≡ true
      giving is = and_from _ _ (exprs_low of_kind.GivingStatement 3 is refl refl refl) (var_low of_kind.GivingStatement 4 is refl refl refl)

      taking : Is of_kind.TakingStatement → takes (length vars) (var_part context 4 (array ps) ∷ vars_part context 3 (array ps)) ≡ true
      taking is = cons_low (var_part context 4 (array ps)) (vars_part context 3 (array ps)) (var_low of_kind.TakingStatement 4 is refl refl refl) (vars_low of_kind.TakingStatement 3 is refl refl refl)

      pub statement_sound : (areas : List ℕ) → each_in test areas ((block (array ps)).stmt context) ≡ true
      statement_sound areas = by_choice (spoken (array ps) (choices_of of_kind.Statement) of_kind.UnknownStatement (never_nothing lists (array ps) of_kind.Statement s w.kept of_kind.UnknownStatement refl))
        where
          by_choice : Spoken (array ps) (choices_of of_kind.Statement) (resolved of_kind.Statement (array ps)) → each_in test areas ((block (array ps)).stmt context) ≡ true
          by_choice f = by_case f.picked.one
            where
              found : (k : Choice) → f.picked.choice ≡ k → resolved of_kind.Statement (array ps) ≡ k.kind
              found k e = f.picked.kind_is ∙ ap (λ (j : Choice). j.kind) e

              by : (k : Choice) (word : Keyword) → f.picked.choice ≡ k → keyword_of k.word ≡ word → Sound word areas → each_in test areas ((block (array ps)).stmt context) ≡ true
              by k word e is h =
                  let first : text_of_part 0 (array ps) ≡ k.word = ap (λ o. unwrap_or o []) f.there ∙ sym f.picked.word_is ∙ ap (λ (j : Choice). j.word) e in
                  ap (λ t. each_in test areas (statement (keyword_of t) context (array ps) (blocks ps))) first
                  ∙ ap (λ q. each_in test areas (statement q context (array ps) (blocks ps))) is ∙ h

              by_case : IsIn f.picked.choice (choices_of of_kind.Statement) → each_in test areas ((block (array ps)).stmt context) ≡ true
              by_case (inl e) = by _ keyword.Set e word_set (and_from _ _ (var_low of_kind.SetStatement 1 (found _ e) refl refl refl) (expr_low of_kind.SetStatement 2 (found _ e) refl refl refl))
              by_case (inr (inl e)) = by _ keyword.If e word_if (and_from _ _ (expr_low of_kind.IfStatement 1 (found _ e) refl refl refl)
                  (and_from _ _ (body_low of_kind.IfStatement 2 areas (found _ e) refl refl refl) (body_low of_kind.IfStatement 3 areas (found _ e) refl refl refl)))
              by_case (inr (inr (inl e))) = by _ keyword.Repeat e word_repeat (and_from _ _ (times_low (found _ e)) (body_low of_kind.RepeatStatement 2 areas (found _ e) refl refl refl))
              by_case (inr (inr (inr (inl e)))) = by _ keyword.Area e word_area (body_low of_kind.AreaStatement 2 (_ ∷ areas) (found _ e) refl refl refl)
              by_case (inr (inr (inr (inr (inl e))))) = by _ keyword.Write e word_write (giving (found _ e))
              by_case (inr (inr (inr (inr (inr (inl e)))))) = by _ keyword.Read e word_read (taking (found _ e))
              by_case (inr (inr (inr (inr (inr (inr (inl e))))))) = by _ keyword.Invalidate e word_invalidate (var_low of_kind.ItemStatement 3 (found _ e) refl refl refl)
              by_case (inr (inr (inr (inr (inr (inr (inr (inl e)))))))) = by _ keyword.IsUpdated e word_updated (var_low of_kind.ItemStatement 3 (found _ e) refl refl refl)
              by_case (inr (inr (inr (inr (inr (inr (inr (inr (inl e))))))))) = by _ keyword.Send e word_send (giving (found _ e))
              by_case (inr (inr (inr (inr (inr (inr (inr (inr (inr (inl e)))))))))) = by _ keyword.Receive e word_receive (taking (found _ e))
              by_case (inr (inr (inr (inr (inr (inr (inr (inr (inr (inr (inl e))))))))))) = by _ keyword.IWrite e word_iwrite (exprs_low of_kind.LateWrite 3 (found _ e) refl refl refl)
              by_case (inr (inr (inr (inr (inr (inr (inr (inr (inr (inr (inr (inl e)))))))))))) = by _ keyword.IRead e word_iread (vars_low of_kind.EarlyRead 3 (found _ e) refl refl refl)
              by_case (inr (inr (inr (inr (inr (inr (inr (inr (inr (inr (inr (inr (inl e))))))))))))) = by _ keyword.IrvWrite e word_irv_write (exprs_low of_kind.VariableWrite 2 (found _ e) refl refl refl)
              by_case (inr (inr (inr (inr (inr (inr (inr (inr (inr (inr (inr (inr (inr (inl e)))))))))))))) = by _ keyword.IrvRead e word_irv_read (vars_low of_kind.VariableRead 2 (found _ e) refl refl refl)
              by_case (inr (inr (inr (inr (inr (inr (inr (inr (inr (inr (inr (inr (inr (inr (inl e))))))))))))))) = by _ keyword.IrvIWrite e word_irv_iwrite (exprs_low of_kind.VariableWrite 2 (found _ e) refl refl refl)
              by_case (inr (inr (inr (inr (inr (inr (inr (inr (inr (inr (inr (inr (inr (inr (inr (inl e)))))))))))))))) = by _ keyword.IrvIRead e word_irv_iread (vars_low of_kind.VariableRead 2 (found _ e) refl refl refl)
              by_case (inr (inr (inr (inr (inr (inr (inr (inr (inr (inr (inr (inr (inr (inr (inr (inr (inl e))))))))))))))))) = by _ keyword.Call e word_call (and_from _ _ (exprs_low of_kind.CallStatement 3 (found _ e) refl refl refl)
                  (cons_low (var_part context 5 (array ps)) (vars_part context 4 (array ps)) (var_low of_kind.CallStatement 5 (found _ e) refl refl refl) (vars_low of_kind.CallStatement 4 (found _ e) refl refl refl)))
              by_case (inr (inr (inr (inr (inr (inr (inr (inr (inr (inr (inr (inr (inr (inr (inr (inr (inr (inl e)))))))))))))))))) = by _ keyword.ACall e word_acall (giving (found _ e))
              by_case (inr (inr (inr (inr (inr (inr (inr (inr (inr (inr (inr (inr (inr (inr (inr (inr (inr (inr (inl e))))))))))))))))))) = by _ keyword.TakeResult e word_result (taking (found _ e))
              by_case (inr (inr (inr (inr (inr (inr (inr (inr (inr (inr (inr (inr (inr (inr (inr (inr (inr (inr (inr (inl e)))))))))))))))))))) = by _ keyword.Switch e word_switch (var_low of_kind.SwitchStatement 3 (found _ e) refl refl refl)
              by_case (inr (inr (inr (inr (inr (inr (inr (inr (inr (inr (inr (inr (inr (inr (inr (inr (inr (inr (inr (inr (inl e))))))))))))))))))))) = by _ keyword.Mode e word_mode (var_low of_kind.ModeStatement 2 (found _ e) refl refl refl)
              by_case (inr (inr (inr (inr (inr (inr (inr (inr (inr (inr (inr (inr (inr (inr (inr (inr (inr (inr (inr (inr (inr none))))))))))))))))))))) = absurd none

    mutual
      stmt_sound : (x : Data) (s : Spot) (areas : List ℕ) → Well lists vars x of_kind.Statement s → each_in test areas ((block x).stmt context) ≡ true
      stmt_sound null s areas w = absurd (never_nothing lists null of_kind.Statement s w.kept of_kind.UnknownStatement refl refl)
      stmt_sound (boolean b) s areas w = absurd (never_nothing lists (boolean b) of_kind.Statement s w.kept of_kind.UnknownStatement refl refl)
      stmt_sound (number n) s areas w = absurd (never_nothing lists (number n) of_kind.Statement s w.kept of_kind.UnknownStatement refl refl)
      stmt_sound (string t) s areas w = absurd (never_nothing lists (string t) of_kind.Statement s w.kept of_kind.UnknownStatement refl refl)
      stmt_sound (array ps) s areas w = statement_sound ps s w (λ n x t ar is v. body_at ps n x t ar is v) areas
      stmt_sound (object ms) s areas w = absurd (never_nothing lists (object ms) of_kind.Statement s w.kept of_kind.UnknownStatement refl refl)

      body_sound : (x : Data) (s : Spot) (areas : List ℕ) → Well lists vars x of_kind.Statements s → each_of test areas ((block x).body context) ≡ true
      body_sound null s areas w = refl
      body_sound (boolean b) s areas w = refl
      body_sound (number n) s areas w = refl
      body_sound (string t) s areas w = refl
      body_sound (array ps) s areas w = stmts_sound ps (λ n. inside_part s of_kind.Statements (array ps) n) areas (item_well ps of_kind.Statements of_kind.Statement s (λ n. refl) w)
      body_sound (object ms) s areas w = refl

      body_at : (ps : Items) (n : ℕ) (x : Data) (s : Spot) (areas : List ℕ) → get_item n ps ≡ Some x → Well lists vars x of_kind.Statements s → each_of test areas ((block x).body context) ≡ true
      body_at no_items n x s areas is w = absurd (none-some x is)
      body_at (item p ps) zero x s areas is w =
          subst (λ y. each_of test areas ((block y).body context) ≡ true) (same_Some p x is) (body_sound p s areas (subst (λ y. Well lists vars y of_kind.Statements s) (sym (same_Some p x is)) w))
      body_at (item p ps) (suc n) x s areas is w = body_at ps n x s areas is w

      stmts_sound : (ps : Items) (spots : ℕ → Spot) (areas : List ℕ) → ((n : ℕ) (x : Data) → get_item n ps ≡ Some x → Well lists vars x of_kind.Statement (spots n)) → each_of test areas (in_order (map (λ b. b.stmt context) (blocks ps))) ≡ true
      stmts_sound no_items spots areas w = refl
      stmts_sound (item p ps) spots areas w = and_from _ _ (stmt_sound p (spots 0) areas (w 0 p refl)) (stmts_sound ps (λ n. spots (suc n)) areas (λ n x is. w (suc n) x is))

-- the program of a runnable
pub program_law : (lists : Catalog) (interfaces : InterfaceNames) (names : ComponentNames) (first : Names) (x : Data) (s : Spot) → Kept lists x of_kind.Runnable s
    → is_well_formed (program_reading interfaces names first (unwrap_or (get (codes "program") x) null)) ≡ true
program_law lists interfaces names first x s kept = from_value (optional_value lists x of_kind.Runnable s 4 (optional "program" of_kind.Statements) refl refl kept)
  where
    from_value : (get (codes "program") x ≡ None) ⊎ Value lists x of_kind.Runnable s (optional "program" of_kind.Statements) → is_well_formed (program_reading interfaces names first (unwrap_or (get (codes "program") x) null)) ≡ true
    from_value (inl e) = ap (λ o. is_well_formed (program_reading interfaces names first (unwrap_or o null))) e
    from_value (inr v) =
        let vars = variables_of first v.value in
        let all = all_has [] (first ++ names_in v.value of_kind.Statements) in
        let named = (and_parts (list_all (has vars) first) (list_all (has vars) (names_in v.value of_kind.Statements)) (sym (list_all-append (has vars) first (names_in v.value of_kind.Statements)) ∙ all)).1 in
        ap (λ o. is_well_formed (program_reading interfaces names first (unwrap_or o null))) v.there
        ∙ body_sound lists vars interfaces names v.value (inside s of_kind.Runnable x (codes "program")) [] (record { kept = v.kept; named = named })
