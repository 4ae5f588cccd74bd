-- Variables that are numbered by their first place.
use Rattle.std.proofs.Common.{◌≡◌, ℕ, ◌+◌, ◌<◌, Bool, true, false, ◌||◌, cond, List, [], ◌∷◌, ◌++◌, bytes_eq, map, take, drop, length, get_or, slice_get, unwrap_or, Bor, refl, sym, ap, ◌∙◌}
use Rattle.std.proofs.lemmas.List.{at_drop_more, map-append, take_more}
use Rattle.std.proofs.lemmas.Option.{unwrap_or-slice_get}
use Rattle.std.specs.List.{list_any}
use Rattle.description_shapes.specs.declared.kind.Kind.{Kind}
use Rattle.serde_json.specs.View.{items_view, view}
use Rattle.serde_json.specs.declared.value.Value.{Value}
use Rattle.declared_names.specs.Names.{Names, text_of}
use Rattle.program_reading.specs.Variables.{added, all_added, among_parts, names_in, names_in_each}

module _ (eq : Bor (List ℕ) → Bor (List ℕ) → Bool) (same : (x y : Bor (List ℕ)) → eq x y ≡ bytes_eq x.now y.now) where
  is_among : (key : Bor (List ℕ)) (keys : List (Bor (List ℕ))) → list_any (eq key) keys ≡ list_any (bytes_eq key.now) (map text_of keys)
  is_among key [] = refl
  is_among key (k ∷ keys) = ap (λ b. b || list_any (eq key) keys) (same key k) ∙ ap (λ b. bytes_eq key.now k.now || b) (is_among key keys)

  chosen : (b : Bool) (key : Bor (List ℕ)) (keys : List (Bor (List ℕ))) → map text_of (cond b keys (keys ++ key ∷ [])) ≡ cond b (map text_of keys) (map text_of keys ++ key.now ∷ [])
  chosen true key keys = refl
  chosen false key keys = map-append text_of keys (key ∷ [])

  pub one_added : (key : Bor (List ℕ)) (keys after : List (Bor (List ℕ))) → after ≡ cond (list_any (eq key) keys) keys (keys ++ key ∷ []) → map text_of after ≡ added (map text_of keys) key.now
  one_added key keys after is =
      ap (map text_of) is ∙ chosen (list_any (eq key) keys) key keys ∙ ap (λ b. cond b (map text_of keys) (map text_of keys ++ key.now ∷ [])) (is_among key keys)

-- names added one part after the other
pub all_added-append : (vars xs ys : Names) → all_added vars (xs ++ ys) ≡ all_added (all_added vars xs) ys
all_added-append vars [] ys = refl
all_added-append vars (x ∷ xs) ys = all_added-append (added vars x) xs ys

-- one more name is copied
pub name_copied : (all : Names) (i : ℕ) (names after : List (Bor (List ℕ))) (n : Bor (List ℕ)) → i < length all → map text_of names ≡ take i all → n.now ≡ unwrap_or (slice_get all i) [] → after ≡ names ++ n ∷ []
    → map text_of after ≡ take (i + 1) all
name_copied all i names after n h before is pushed =
    ap (map text_of) pushed ∙ map-append text_of names (n ∷ []) ∙ ap (λ ns. ns ++ n.now ∷ []) before ∙ ap (λ x. take i all ++ x ∷ []) (is ∙ unwrap_or-slice_get all i [])
    ∙ sym (take_more all i [] h)

-- the variables of one more part are added
pub part_added : (parts : List Value) (kinds : ℕ → Kind) (i : ℕ) (part : Value) (kind : Kind) (vars after whole : Names) → i < length parts → part ≡ get_or parts i part → kind ≡ kinds i
    → all_added vars (among_parts kinds i (names_in_each (items_view (drop i parts)))) ≡ whole → after ≡ all_added vars (names_in (view part) kind)
    → all_added after (among_parts kinds (i + 1) (names_in_each (items_view (drop (i + 1) parts)))) ≡ whole
part_added parts kinds i part kind vars after whole h part_is kind_is inv put =
    let left = among_parts kinds (i + 1) (names_in_each (items_view (drop (i + 1) parts))) in
    let here : names_in (view part) kind ≡ names_in (view (get_or parts i part)) (kinds i) = ap (λ v. names_in (view v) kind) part_is ∙ ap (λ k. names_in (view (get_or parts i part)) k) kind_is in
    ap (λ vs. all_added vs left) (put ∙ ap (all_added vars) here)
    ∙ sym (all_added-append vars (names_in (view (get_or parts i part)) (kinds i)) left)
    ∙ sym (at_drop_more (λ vs. all_added vars (among_parts kinds i (names_in_each (items_view vs)))) parts i part h)
    ∙ inv

pub added_after : (first names : Names) → all_added [] (first ++ names) ≡ all_added (all_added [] first) names
added_after first names = all_added-append [] first names
