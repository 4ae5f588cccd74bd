-- What is stored last in a group is the last value that its elements were given.
use Rattle.std.proofs.Common.{◌≡◌, ℕ, zero, suc, ◌/◌, ◌%◌, ℤ, Bool, true, false, ◌||◌, ◌==◌, if◌then◌else◌, refl, sym, ◌∙◌, ap, append_assoc, append-nil, List, [], ◌∷◌, ◌++◌, drop, Option, Some, None}
use Rattle.bus_semantics.specs.Common.{or_from, or_left, or_right, eqb-true, eq-eqb, false≢true, same_Some, list_any-append, slice_get, option_or, Plan, group_of, words_at, marked, split}
use Rattle.bus_semantics.specs.Common.{History, noted, is_in_group, last_in, stored_in, last_stored}
use Rattle.std.proofs.lemmas.Nat.Bits.{bit_at_lowest, bit_at-suc}
use Rattle.std.specs.Int.{bit_at}
use Rattle.bus_laws.specs.Common.{Deed, Entry}
use Rattle.bus_semantics.specs.declared.entries.Deed.TheVariants as deed
use Rattle.bus_laws.proofs.Thinning.{clash, option_same, option_test}
use Rattle.bus_laws.proofs.OneBundle.{has}
use Rattle.pair_run.specs.Given.{gives, given_in, reaches, IsLastGiven}

-- an entry stores in a group what it gives last to it
stored_gives : (p : Plan) (g : ℕ) (d : Deed) → stored_in p g d ≡ last_in p g (gives p d)
stored_gives p g (deed.Write x value) = refl
stored_gives p g (deed.Publish x value) = refl
stored_gives p g (deed.PublishAll l written value) = refl
stored_gives p g d = refl

none_reaches : (p : Plan) (g : ℕ) (given : List (ℕ × List ℤ)) → last_in p g given ≡ None → reaches p g given ≡ false
none_reaches p g [] none = refl
none_reaches p g (pair ∷ given) none = by_rest (none_reaches p g given) (last_in p g given) refl none
  where
    by_group : reaches p g given ≡ false → (b : Bool) → (if b then Some pair.1 else None) ≡ None → (b || reaches p g given) ≡ false
    by_group rest true none = absurd (cc none)
    by_group rest false none = rest

    by_rest : (last_in p g given ≡ None → reaches p g given ≡ false) → (o : Option (List ℤ)) → last_in p g given ≡ o → option_or o (if is_in_group p g pair.0 then Some pair.1 else None) ≡ None → reaches p g (pair ∷ given) ≡ false
    by_rest before None is none = by_group (before is) (is_in_group p g pair.0) none
    by_rest before (Some ws) is none = absurd (cc none)

-- of some values
last_given : (p : Plan) (g : ℕ) (given : List (ℕ × List ℤ)) (ws : List ℤ) → last_in p g given ≡ Some ws → IsLastGiven p g given ws
last_given p g [] ws is = absurd (cc is)
last_given p g (pair ∷ given) ws is = by_rest (last_given p g given ws) (last_in p g given) refl is
  where
    by_group : reaches p g given ≡ false → (b : Bool) → is_in_group p g pair.0 ≡ b → (if b then Some pair.1 else None) ≡ Some ws → IsLastGiven p g (pair ∷ given) ws
    by_group none true within is = record {
      earlier = [];
      elem = pair.0;
      later = given;
      whole = ap (λ (us : List ℤ). (pair.0, us) ∷ given) (same_Some pair.1 ws is);
      within = option_same (group_of p pair.0) (Some g) within;
      last = none;
    }
    by_group none false within is = absurd (cc is)

    by_rest : (last_in p g given ≡ Some ws → IsLastGiven p g given ws) → (o : Option (List ℤ)) → last_in p g given ≡ o → option_or o (if is_in_group p g pair.0 then Some pair.1 else None) ≡ Some ws → IsLastGiven p g (pair ∷ given) ws
    by_rest before None at is = by_group (none_reaches p g given at) (is_in_group p g pair.0) refl is
    by_rest before (Some us) at is =
        let rest = before (at ∙ is) in
        record {
          earlier = pair ∷ rest.earlier;
          elem = rest.elem;
          later = rest.later;
          whole = ap (λ (given : List (ℕ × List ℤ)). pair ∷ given) rest.whole;
          within = rest.within;
          last = rest.last;
        }

module _ (p : Plan) (g : ℕ) where
  -- with others before them
  behind : (first given : List (ℕ × List ℤ)) (ws : List ℤ) → IsLastGiven p g given ws → IsLastGiven p g (first ++ given) ws
  behind first given ws r = record {
    earlier = first ++ r.earlier;
    elem = r.elem;
    later = r.later;
    whole = ap (λ (given : List (ℕ × List ℤ)). first ++ given) r.whole ∙ sym (append_assoc first r.earlier ((r.elem, ws) ∷ r.later));
    within = r.within;
    last = r.last;
  }

  reaches_append : (given more : List (ℕ × List ℤ)) → reaches p g given ≡ false → reaches p g more ≡ false → reaches p g (given ++ more) ≡ false
  reaches_append given more one two =
      list_any-append (λ (pair : ℕ × List ℤ). is_in_group p g pair.0) given more ∙ or_from (reaches p g given) (reaches p g more) one two

  -- with others behind them, none of the group
  before : (given more : List (ℕ × List ℤ)) (ws : List ℤ) → reaches p g more ≡ false → IsLastGiven p g given ws → IsLastGiven p g (given ++ more) ws
  before given more ws none r = record {
    earlier = r.earlier;
    elem = r.elem;
    later = r.later ++ more;
    whole = ap (λ (given : List (ℕ × List ℤ)). given ++ more) r.whole ∙ append_assoc r.earlier ((r.elem, ws) ∷ r.later) more;
    within = r.within;
    last = reaches_append r.later more r.last none;
  }

  -- of a history
  pub none_stored : (h : History) → last_stored p g (noted h) ≡ None → reaches p g (given_in p h) ≡ false
  none_stored [] none = refl
  none_stored (e ∷ h) none = by_first (none_stored h) (stored_in p g e.deed) refl none
    where
      by_first : (last_stored p g (noted h) ≡ None → reaches p g (given_in p h) ≡ false) → (o : Option (List ℤ)) → stored_in p g e.deed ≡ o → option_or o (last_stored p g (noted h)) ≡ None
          → reaches p g (given_in p h ++ gives p e.deed) ≡ false
      by_first rest None at none = reaches_append (given_in p h) (gives p e.deed) (rest none) (none_reaches p g (gives p e.deed) (sym (stored_gives p g e.deed) ∙ at))
      by_first rest (Some us) at none = absurd (cc none)

  pub last_one : (h : History) (ws : List ℤ) → last_stored p g (noted h) ≡ Some ws → IsLastGiven p g (given_in p h) ws
  last_one [] ws is = absurd (cc is)
  last_one (e ∷ h) ws is = by_first (last_one h ws) (stored_in p g e.deed) refl is
    where
      by_first : (last_stored p g (noted h) ≡ Some ws → IsLastGiven p g (given_in p h) ws) → (o : Option (List ℤ)) → stored_in p g e.deed ≡ o → option_or o (last_stored p g (noted h)) ≡ Some ws
          → IsLastGiven p g (given_in p h ++ gives p e.deed) ws
      by_first rest None at is = before (given_in p h) (gives p e.deed) ws (none_reaches p g (gives p e.deed) (sym (stored_gives p g e.deed) ∙ at)) (rest is)
      by_first rest (Some us) at is = behind (given_in p h) (gives p e.deed) ws (last_given p g (gives p e.deed) ws (sym (stored_gives p g e.deed) ∙ at ∙ is))

  -- what was before an entry that gives something to the group has no part in it
  pub since : (after old : History) (b : Entry) → reaches p g (gives p b.deed) ≡ true → last_stored p g (noted (after ++ b ∷ old)) ≡ last_stored p g (noted (after ++ b ∷ []))
  since [] old b some = by_stored (stored_in p g b.deed) refl
    where
      by_stored : (o : Option (List ℤ)) → stored_in p g b.deed ≡ o → option_or (stored_in p g b.deed) (last_stored p g (noted old)) ≡ option_or (stored_in p g b.deed) None
      by_stored None at = clash (reaches p g (gives p b.deed)) some (none_reaches p g (gives p b.deed) (sym (stored_gives p g b.deed) ∙ at))
      by_stored (Some us) at = ap (λ (o : Option (List ℤ)). option_or o (last_stored p g (noted old))) at ∙ sym (ap (λ (o : Option (List ℤ)). option_or o None) at)
  since (e ∷ after) old b some = ap (option_or (stored_in p g e.deed)) (since after old b some)

-- what is given from an entry on
pub given_from : (p : Plan) (after : History) (b : Entry) → given_in p (after ++ b ∷ []) ≡ gives p b.deed ++ given_in p after
given_from p [] b = sym (append-nil (gives p b.deed))
given_from p (e ∷ after) b = ap (λ (given : List (ℕ × List ℤ)). given ++ gives p e.deed) (given_from p after b) ∙ append_assoc (gives p b.deed) (given_in p after) (gives p e.deed)

pub reached : (p : Plan) (g : ℕ) (after : History) (b : Entry) → reaches p g (gives p b.deed) ≡ true → reaches p g (given_in p (after ++ b ∷ [])) ≡ true
reached p g after b some =
    ap (reaches p g) (given_from p after b)
    ∙ list_any-append (λ (pair : ℕ × List ℤ). is_in_group p g pair.0) (gives p b.deed) (given_in p after)
    ∙ or_left (reaches p g (gives p b.deed)) (reaches p g (given_in p after)) some

-- each of some elements has words
pub each_reaches : (p : Plan) (g y : ℕ) → group_of p y ≡ Some g → (xs : List ℕ) (ws : List ℤ) → has xs y ≡ true → reaches p g (split p xs ws) ≡ true
each_reaches p g y of [] ws there = absurd (false≢true there)
each_reaches p g y of (x ∷ xs) ws there = by_first (each_reaches p g y of xs (drop (words_at p x) ws)) (x == y) refl there
  where
    by_first : (has xs y ≡ true → reaches p g (split p xs (drop (words_at p x) ws)) ≡ true) → (b : Bool) → (x == y) ≡ b → (b || has xs y) ≡ true
        → (is_in_group p g x || reaches p g (split p xs (drop (words_at p x) ws))) ≡ true
    by_first rest true same there =
        or_left (is_in_group p g x) (reaches p g (split p xs (drop (words_at p x) ws))) (option_test (group_of p x) (Some g) (ap (group_of p) (eqb-true x y same) ∙ of))
    by_first rest false other there = or_right (is_in_group p g x) (reaches p g (split p xs (drop (words_at p x) ws))) (rest there)

-- an element whose bit is set is marked
pub bit_marks : (y : ℕ) (xs : List ℕ) (w j : ℕ) → slice_get xs j ≡ Some y → bit_at w j ≡ 1 → has (marked w xs) y ≡ true
bit_marks y [] w j at set = absurd (cc at)
bit_marks y (x ∷ xs) w zero at set =
    let low : (w % 2 == 1) ≡ true = eq-eqb (w % 2) 1 (sym (bit_at_lowest w) ∙ set) in
    ap (λ b. has (if b then x ∷ marked (w / 2) xs else marked (w / 2) xs) y) low ∙ or_left (x == y) (has (marked (w / 2) xs) y) (eq-eqb x y (same_Some x y at))
bit_marks y (x ∷ xs) w (suc j) at set = by_low (w % 2 == 1) (bit_marks y xs (w / 2) j at (sym (bit_at-suc w j) ∙ set))
  where
    by_low : (b : Bool) → has (marked (w / 2) xs) y ≡ true → has (if b then x ∷ marked (w / 2) xs else marked (w / 2) xs) y ≡ true
    by_low true there = or_right (x == y) (has (marked (w / 2) xs) y) there
    by_low false there = there
