-- What a publication of a list stores: in each group the words of its last element that is the group's, and nothing in the others.
use Rattle.std.proofs.Common.{◌≡◌, ◌≤◌, ◌-◌, ℕ, ℤ, Bool, true, false, ◌==◌, ◌/◌, ◌%◌, if◌then◌else◌, refl, sym, ◌∙◌, ap, subst, arith, List, [], ◌∷◌, length, take, drop, replicate, set}
use Rattle.std.proofs.Common.{Option, Some, None}
use Rattle.std.specs.Prelude.{option_and_then}
use Rattle.bus_semantics.specs.Common.{slice_get, option_or, option_map_or, false≢true, length-replicate, length-set, length-drop, same_Some, Value, Plan, group_of, words_at, marked, split}
use Rattle.bus_semantics.specs.Common.{is_in_group, last_in}
use Rattle.std.proofs.lemmas.List.{length-take}
use Rattle.object_kinds.specs.Common.{place, is_rising}
use Rattle.data_objects.specs.Kept as groups
use Rattle.bundle_objects.specs.Kept.{Kept}
use Rattle.bundle_objects.specs.Leading.{part_of, with_part, after_publication, store_at, store, publish}
use Rattle.bundle_objects.specs.Words.{value_of}
use Rattle.bundle_objects.proofs.Parts.{set_here, set_there, part_inside, inside_part, At, here, elsewhere, compared, Part, part_found}

-- ---- one value

-- what no store changes
pub record Same (k after : Kept) : Type 0 where
  pub numbers : after.numbers ≡ k.numbers
  pub events : after.events ≡ k.events
  pub places : after.places ≡ k.places
  pub counted : length after.parts ≡ length k.parts

pub same_all : (k : Kept) → Same k k
same_all k = record { numbers = refl; events = refl; places = refl; counted = refl }

pub same_then : (k mid after : Kept) → Same k mid → Same mid after → Same k after
same_then k mid after first second = record {
  numbers = second.numbers ∙ first.numbers;
  events = second.events ∙ first.events;
  places = second.places ∙ first.places;
  counted = second.counted ∙ first.counted;
}

pub part_set_same : (k : Kept) (i : ℕ) (part : groups.Kept) → Same k (with_part k i part)
part_set_same k i part = record { numbers = refl; events = refl; places = refl; counted = length-set k.parts i part }

pub store_same : (k : Kept) (v : Value) (at : Option ℕ) → Same k (store_at k v at)
store_same k v None = same_all k
store_same k v (Some i) = by_part (slice_get k.parts i)
  where
    by_part : (o : Option groups.Kept) → Same k (option_map_or (λ part. with_part k i (after_publication v part)) o k)
    by_part None = same_all k
    by_part (Some part) = part_set_same k i (after_publication v part)

-- a part after a value was stored by an element
abbrev pub given_to : Bool → Value → groups.Kept → groups.Kept
given_to inside v part = if inside then after_publication v part else part

store_at_part : (p : Plan) (k : Kept) (x i g : ℕ) (v : Value) (part : groups.Kept) → is_rising k.numbers ≡ true → slice_get k.numbers i ≡ Some g → slice_get k.parts i ≡ Some part
    → (o : Option ℕ) → part_of p k x ≡ o → slice_get (store_at k v o).parts i ≡ Some (given_to (is_in_group p g x) v part)
store_at_part p k x i g v part up number there None none = there ∙ ap (λ b. Some (given_to b v part)) (sym outside)
  where
    by_test : (b : Bool) → is_in_group p g x ≡ b → b ≡ false
    by_test false is = refl
    by_test true is = absurd (cc (sym none ∙ inside_part p k x i g up number is))

    outside : is_in_group p g x ≡ false
    outside = by_test (is_in_group p g x) refl
store_at_part p k x i g v part up number there (Some j) at = by_place (compared j i)
  where
    by_place : At j i → slice_get (store_at k v (Some j)).parts i ≡ Some (given_to (is_in_group p g x) v part)
    by_place (here same) =
        let found : slice_get k.parts j ≡ Some part = ap (slice_get k.parts) same ∙ there in
        let inside : is_in_group p g x ≡ true = part_inside p k x i g (at ∙ ap (λ n. Some n) same) number in
        ap (λ o. slice_get (option_map_or (λ q. with_part k j (after_publication v q)) o k).parts i) found
        ∙ ap (λ n. slice_get (set k.parts n (after_publication v part)) i) same
        ∙ set_here k.parts i (after_publication v part) part there
        ∙ ap (λ b. Some (given_to b v part)) (sym inside)
    by_place (elsewhere apart) = by_part (slice_get k.parts j) ∙ there ∙ ap (λ b. Some (given_to b v part)) (sym outside)
      where
        by_part : (o : Option groups.Kept) → slice_get (option_map_or (λ q. with_part k j (after_publication v q)) o k).parts i ≡ slice_get k.parts i
        by_part None = refl
        by_part (Some q) = set_there k.parts j i (after_publication v q) apart

        by_test : (b : Bool) → is_in_group p g x ≡ b → b ≡ false
        by_test false is = refl
        by_test true is = absurd (apart (same_Some j i (sym at ∙ inside_part p k x i g up number is)))

        outside : is_in_group p g x ≡ false
        outside = by_test (is_in_group p g x) refl

-- ---- all of them

abbrev pub taken_by : Option (List ℤ) → groups.Kept → groups.Kept
taken_by None part = part
taken_by (Some ws) part = after_publication (value_of ws) part

-- of two values the second stays
twice : (v w : Value) (part : groups.Kept) → after_publication w (after_publication v part) ≡ after_publication w part
twice v w part = λ i. record {
  events = part.events;
  unqueued = record {
    inits = part.unqueued.inits;
    events = part.unqueued.events;
    stored = Some w;
    invalid = false;
    updated = replicate (length-replicate (length part.unqueued.updated) true i) true;
    due = replicate (length-replicate (length part.unqueued.due) true i) true;
  };
}

then_taken : (o : Option (List ℤ)) (inside : Bool) (ws : List ℤ) (part : groups.Kept)
    → taken_by o (given_to inside (value_of ws) part) ≡ taken_by (option_or o (if inside then Some ws else None)) part
then_taken None true ws part = refl
then_taken None false ws part = refl
then_taken (Some vs) true ws part = twice (value_of ws) (value_of vs) part
then_taken (Some vs) false ws part = refl

pub publish_same : (p : Plan) (k : Kept) (pairs : List (ℕ × List ℤ)) → Same k (publish p k pairs)
publish_same p k [] = same_all k
publish_same p k (pair ∷ pairs) =
    let mid = store p k pair.0 (value_of pair.1) in
    same_then k mid (publish p mid pairs) (store_same k (value_of pair.1) (part_of p k pair.0)) (publish_same p mid pairs)

pub published_part : (p : Plan) (i g : ℕ) (pairs : List (ℕ × List ℤ)) (k : Kept) (part : groups.Kept) → is_rising k.numbers ≡ true → slice_get k.numbers i ≡ Some g → slice_get k.parts i ≡ Some part
    → slice_get (publish p k pairs).parts i ≡ Some (taken_by (last_in p g pairs) part)
published_part p i g [] k part up number there = there
published_part p i g (pair ∷ pairs) k part up number there =
    let v = value_of pair.1 in
    let mid = store p k pair.0 v in
    let same = store_same k v (part_of p k pair.0) in
    published_part p i g pairs mid (given_to (is_in_group p g pair.0) v part) (ap is_rising same.numbers ∙ up) (ap (λ ns. slice_get ns i) same.numbers ∙ number)
    (store_at_part p k pair.0 i g v part up number there (part_of p k pair.0) refl)
    ∙ ap (λ q. Some q) (then_taken (last_in p g pairs) (is_in_group p g pair.0) pair.1 part)

-- ---- no element gets more words than there are

pub last_short : (p : Plan) (g n : ℕ) (xs : List ℕ) (ws vs : List ℤ) → length ws ≤ n → last_in p g (split p xs ws) ≡ Some vs → length vs ≤ n
last_short p g n [] ws vs short is = absurd (cc is)
last_short p g n (x ∷ xs) ws vs short is =
    by_later (last_in p g (split p xs (drop (words_at p x) ws))) (is_in_group p g x)
    (λ e. last_short p g n xs (drop (words_at p x) ws) vs (omega (arith, short, length-drop (words_at p x) ws)) e) is
  where
    by_later : (o : Option (List ℤ)) (inside : Bool) → (o ≡ Some vs → length vs ≤ n) → option_or o (if inside then Some (take (words_at p x) ws) else None) ≡ Some vs → length vs ≤ n
    by_later (Some us) inside later e = later e
    by_later None false later e = absurd (cc e)
    by_later None true later e =
        let front : take (words_at p x) ws ≡ vs = same_Some (take (words_at p x) ws) vs e in
        subst (λ us. length us ≤ n) front (omega (arith, short, length-take (words_at p x) ws))
