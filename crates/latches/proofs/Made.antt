-- Flags that are made: how many there are of each group, and that all of them are cleared.
use Rattle.std.proofs.Common.{◌≡◌, ◌<◌, ◌≤◌, ◌+◌, ◌==◌, ℕ, refl, sym, ◌∙◌, ap, subst, arith, List, [], ◌∷◌, ◌++◌, length, get_or, set, map, take, drop, Some, Vec, ◌⊎◌, inl, inr}
use Rattle.std.specs.Global.{Global}
use Rattle.std.specs.List.{slice_get, count_by}
use Rattle.std.proofs.lemmas.Bool.{cases_eq, eq-eqb, ne_eqb}
use Rattle.std.proofs.lemmas.List.{get_or-set_same, get_or-set_other, get_or_default, drop_more, map_more, set_at, get_or_at, length-map, length-take-le, length-append, append_assoc}
use Rattle.std.proofs.lemmas.List.Sums.{count_by_more_yes, count_by_more_no, count_by-le-length}
use Rattle.std.proofs.lemmas.Option.{slice_get-get_or, slice_get_within, get_or_from_slice_get}
use Rattle.latches.specs.Latches.{Latch, clear_in, set_in}
use Rattle.latches.specs.Noted.{is_of, IsNoted, AreNoted, AreReserved}
use Rattle.latches.proofs.Counts.{count_map}
use Rattle.latches.proofs.Grouped.{mapped, none_noted}

-- ---- how many

module _ (groups sizes : List ℕ) (count i : ℕ) (within : i < length groups) (long : length sizes ≡ count) (below : get_or groups i 0 < count) (sizes_are : (group : ℕ) → group < count → get_or sizes group 0 ≡ count_by (λ h. h == group) (take i groups)) (size : ℕ) (read : size ≡ get_or sizes (get_or groups i 0) size) where
  abbrev at : ℕ
  at = get_or groups i 0

  size_is : size ≡ count_by (λ h. h == at) (take i groups)
  size_is = let here : at < length sizes = omega arith in read ∙ get_or_default sizes at size 0 here ∙ sizes_are at below

  pub size_fits : size ≤ i
  size_fits = let le : i ≤ length groups = omega arith in omega (arith, size_is, count_by-le-length (λ h. h == at) (take i groups), length-take-le i groups le)

  pub one_size_more : (group : ℕ) → group < count → get_or (set sizes at (size + 1)) group 0 ≡ count_by (λ h. h == group) (take (i + 1) groups)
  one_size_more group there = of_group (cases_eq group at)
    where
      of_group : (group ≡ at) ⊎ (group ≡ at → ⊥) → get_or (set sizes at (size + 1)) group 0 ≡ count_by (λ h. h == group) (take (i + 1) groups)
      of_group (inl same) =
          subst (λ g. get_or (set sizes at (size + 1)) g 0 ≡ count_by (λ h. h == g) (take (i + 1) groups)) (sym same)
          (get_or-set_same sizes at (size + 1) 0 (omega arith) ∙ ap (λ n. n + 1) size_is ∙ sym (count_by_more_yes (λ h. h == at) groups i 0 within (eq-eqb at at refl)))
      of_group (inr other) =
          get_or-set_other sizes at group (size + 1) 0 other ∙ sizes_are group there ∙ sym (count_by_more_no (λ h. h == group) groups i 0 within (ne_eqb at group (λ same. other (sym same))))

-- ---- all set, and then cleared one after the other

pub all_noted : (groups : List ℕ) (flags : List Latch) (lists : List (Vec ℕ Global)) (count : ℕ) → flags ≡ map set_in groups → length lists ≡ count → ((i : ℕ) (d : ℕ) → i < length groups → get_or groups i d < count) → AreReserved groups lists → AreNoted flags lists
all_noted groups flags lists count made long below reserved = subst (λ xs. AreNoted xs lists) (sym made) (record { grouped = grouped; noted = noted })
  where
    grouped : (at : ℕ) (l : Latch) → slice_get (map set_in groups) at ≡ Some l → l.group < length lists
    grouped at l is =
        let was = mapped set_in groups at l is in
        let read = get_or_from_slice_get groups at was.item was.item was.is in
        let there = below at was.item (slice_get_within groups at was.item was.is) in
        omega (arith, ap (λ (m : Latch). m.group) was.gives, read, there, long)

    noted : (group : ℕ) (places : Vec ℕ Global) → slice_get lists group ≡ Some places → IsNoted group (map set_in groups) places
    noted group places is =
        let own = reserved group places is in
        none_noted group (map set_in groups) places own.empty (λ at l found of. ap (λ (m : Latch). m.is_set) (mapped set_in groups at l found).gives)
        (omega (arith, count_map (is_of group) (λ g. g == group) set_in (λ g. refl) groups, own.room))

module _ (groups : List ℕ) (i : ℕ) (within : i < length groups) where
  abbrev cleared : List Latch
  cleared = map clear_in (take i groups)

  abbrev group : ℕ
  group = get_or groups i 0

  abbrev rest : List Latch
  rest = map set_in (drop (i + 1) groups)

  split : cleared ++ map set_in (drop i groups) ≡ cleared ++ set_in group ∷ rest
  split = ap (λ gs. cleared ++ map set_in gs) (drop_more groups i 0 within)

  long : length cleared ≡ i
  long = let le : i ≤ length groups = omega arith in length-map (take i groups) clear_in ∙ length-take-le i groups le

  pub next_is : slice_get (cleared ++ map set_in (drop i groups)) i ≡ Some (set_in group)
  next_is =
      let whole = cleared ++ set_in group ∷ rest in
      let inside : i < length whole = omega (arith, long, length-append cleared (set_in group ∷ rest)) in
      ap (λ xs. slice_get xs i) split ∙ slice_get-get_or whole i (set_in group) inside ∙ ap (λ l. Some l) (get_or_at cleared (set_in group) rest (set_in group) i long)

  pub next_cleared : set (cleared ++ map set_in (drop i groups)) i (clear_in group) ≡ map clear_in (take (i + 1) groups) ++ rest
  next_cleared =
      ap (λ xs. set xs i (clear_in group)) split ∙ set_at cleared (set_in group) rest (clear_in group) i long ∙ sym (append_assoc cleared (clear_in group ∷ []) rest)
      ∙ ap (λ xs. xs ++ rest) (sym (map_more clear_in groups i 0 within))
