-- The least group that lists connect with each group: none is after its group, and each leads itself.
use Rattle.std.proofs.Common.{◌≡◌, ℕ, ◌+◌, ◌<◌, ◌≤◌, List, [], ◌∷◌, map, length, get_or, Bool, true, false, cond, Some, ⊎_elim, refl, sym, ap, subst, ◌∙◌, arith, slice_get}
use Rattle.bus_semantics.specs.Common.{cases_lt, slice_get-get_or, slice_get_within, least, leaders_by, leaders_on, together, positions as bus_positions}
use Rattle.std.proofs.lemmas.List.{get_or_past}
use Rattle.plan_definitions.specs.Common.{Among, positions}
use Rattle.plan_definitions.proofs.Labels.{among_comes, comes, comes_among, label, least_among, least_low, least_same}
use Rattle.plan_definitions.proofs.Lists.{get_map, many_positions, map_get, position_there, unmapped}
use Rattle.sound_plans.proofs.Grouping.{same_positions}

-- no label is after its group, and each label is its own
pub record AreLeaders (ls : List ℕ) : Type 0 where
  pub low : (n l : ℕ) → slice_get ls n ≡ Some l → l ≤ n
  pub own : (n l : ℕ) → slice_get ls n ≡ Some l → slice_get ls l ≡ Some l

-- ---- at first

first_label : (n k l : ℕ) → slice_get (bus_positions n) k ≡ Some l → l ≡ k
first_label n k l is =
    let there : slice_get (positions 0 n) k ≡ Some l = ap (λ xs. slice_get xs k) (sym (same_positions n)) ∙ is in
    let lt : k < n = let small = slice_get_within (positions 0 n) k l there in omega (arith, small, many_positions 0 n) in
    let z : 0 + k ≡ k = omega arith in
    let e : Some l ≡ Some k = sym there ∙ position_there 0 n k lt ∙ ap (λ m. Some m) z in
    cc

own_leaders : (n : ℕ) → AreLeaders (bus_positions n)
own_leaders n = record {
  low = λ k l is. let e = first_label n k l is in omega arith;
  own = λ k l is. subst (λ m. slice_get (bus_positions n) m ≡ Some l) (sym (first_label n k l is)) is;
}

-- ---- after one more list

module _ (gs ls : List ℕ) (before : AreLeaders ls) where
  abbrev theirs : List ℕ
  theirs = map (λ g. get_or ls g g) gs

  -- a label of theirs that is a group is its own label
  theirs_own : (l : ℕ) → Among l theirs → l < length ls → slice_get ls l ≡ Some l
  theirs_own l among small = let p = unmapped (λ g. get_or ls g g) gs l among in ⊎_elim
      (λ (lt : p.0 < length ls). before.own p.0 l (slice_get-get_or ls p.0 p.0 lt ∙ ap (λ m. Some m) (sym p.2)))
      (λ (le : length ls ≤ p.0). let e : l ≡ p.0 = p.2 ∙ get_or_past ls p.0 p.0 le in absurd (omega arith))
      (cases_lt p.0 (length ls))

  low_after : (n l : ℕ) → slice_get ls n ≡ Some l → label theirs l ≤ n
  low_after n l is = by (comes theirs l)
    where
      by : (b : Bool) → cond b (least l theirs) l ≤ n
      by true = omega (arith, least_low l theirs, before.low n l is)
      by false = before.low n l is

  own_after : (n l : ℕ) → slice_get ls n ≡ Some l → slice_get (map (label theirs) ls) (label theirs l) ≡ Some (label theirs l)
  own_after n l is = by (comes theirs l) refl
    where
      small : l < length ls
      small = omega (arith, before.low n l is, slice_get_within ls n l is)

      by : (b : Bool) → comes theirs l ≡ b → slice_get (map (label theirs) ls) (cond b (least l theirs) l) ≡ Some (cond b (least l theirs) l)
      by true h =
          let here = comes_among theirs l h in
          let m = least l theirs in
          let there = least_among l theirs here in
          let itself : slice_get ls m ≡ Some m = theirs_own m there (omega (arith, small, least_low l theirs)) in
          map_get (label theirs) ls m m itself
          ∙ ap (λ b. Some (cond b (least m theirs) m)) (among_comes theirs m there)
          ∙ ap (λ k. Some k) (least_same m l theirs there here)
      by false h = map_get (label theirs) ls l l (before.own n l is) ∙ ap (λ b. Some (cond b (least l theirs) l)) h

  after : AreLeaders (together gs ls)
  after = record {
    low = λ n l is. let p = get_map (label theirs) ls n l is in subst (λ m. m ≤ n) p.2 (low_after n p.0 p.1);
    own = λ n l is. let p = get_map (label theirs) ls n l is in subst (λ m. slice_get (map (label theirs) ls) m ≡ Some m) p.2 (own_after n p.0 p.1);
  }

-- ---- after all

leaders_after : (ls : List ℕ) (lists : List (List ℕ)) → AreLeaders ls → AreLeaders (leaders_on ls lists)
leaders_after ls [] before = before
leaders_after ls (gs ∷ more) before = leaders_after (together gs ls) more (after gs ls before)

pub are_leaders : (n : ℕ) (lists : List (List ℕ)) → AreLeaders (leaders_by n lists)
are_leaders n lists = leaders_after (bus_positions n) lists (own_leaders n)
