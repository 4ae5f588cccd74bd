-- The list of free blocks after a block was taken or given back, and that of a new pool.
use Rattle.std.proofs.Common.{◌≡◌, ◌<◌, ◌≤◌, ◌+◌, ◌==◌, ◌||◌, ℕ, zero, suc, refl, sym, ◌∙◌, ap, subst, arith, Bool, true, false, List, [], ◌∷◌, ◌++◌, length, get_or, nat_eq, replicate, Option, Vec}
use Rattle.std.specs.Cmp.{nat_eq_equiv}
use Rattle.std.specs.Global.{Global}
use Rattle.std.specs.List.{All, list_any, range_with_len, IsDistinct}
use Rattle.std.specs.Option.{option_to_list}
use Rattle.std.specs.Vec.{vec_capacity}
use Rattle.std.proofs.lemmas.Bool.{eq-eqb, or_right, eqb-true, ne_eqb, false≢true, or_left}
use Rattle.std.proofs.lemmas.List.{get_or_push, get_or_append_left, length-append, length_push, map-id}
use Rattle.std.proofs.lemmas.List.Folds.{list_any-append, list_any_none}
use Rattle.std.proofs.lemmas.List.FromFn.{get_or-range_with_len, length-range_with_len, map-range_with_len_more}
use Rattle.std.proofs.lemmas.Map.Keys.{IsDistinct-from_apart, IsDistinct-push, apart_from_distinct}
use Rattle.std.proofs.lemmas.Map.Steps.{length-le_from_distinct_below}
use Rattle.rte_value.specs.declared.value.Value.{Value}
use Rattle.rte_value.specs.EqualValues.{Value-by_words}
use Rattle.rte_value.specs.ShortValues.{empty_value}
use Rattle.rte_value.specs.Values.{words_of}
use Rattle.queued_ports.specs.Free.{AreFree}
use Rattle.queued_ports.specs.KeptBlocks.{IsTaken}

-- ---- a block is taken

front_distinct : (xs ys : List ℕ) → IsDistinct nat_eq (xs ++ ys) → IsDistinct nat_eq xs
front_distinct xs ys apart = IsDistinct-from_apart nat_eq xs one
  where
    one : (i j d : ℕ) → i < j → j < length xs → nat_eq (get_or xs i d) (get_or xs j d) ≡ false
    one i j d less within =
        let before : i < length xs = omega arith in
        let inside : j < length (xs ++ ys) = omega (arith, length-append xs ys) in
        ap (λ x. nat_eq x (get_or xs j d)) (sym (get_or_append_left xs ys d i before))
        ∙ ap (nat_eq (get_or (xs ++ ys) i d)) (sym (get_or_append_left xs ys d j within))
        ∙ apart_from_distinct nat_eq (xs ++ ys) i j d apart less inside

pub one_taken : (values : List Value) (free less : Vec ℕ Global) (block : Option ℕ) → free.items ≡ less.items ++ option_to_list block → vec_capacity less ≡ vec_capacity free → AreFree values free → AreFree values less
one_taken values free less block parts capacity all = record {
  distinct = front_distinct less.items (option_to_list block) (subst (IsDistinct nat_eq) parts all.distinct);
  below = λ q found. all.below q (ap (list_any (λ f. q == f)) parts ∙ list_any-append (λ f. q == f) less.items (option_to_list block) ∙ or_left _ _ found);
  room = omega (arith, all.room);
}

pub last_taken : (values : List Value) (free less : Vec ℕ Global) (block : ℕ) → free.items ≡ less.items ++ block ∷ [] → AreFree values free → IsTaken block (record { values = values; free = less.items })
last_taken values free less block parts all = record {
  within = all.below block (ap (list_any (λ f. block == f)) parts ∙ list_any-append (λ f. block == f) less.items (block ∷ []) ∙ or_right (list_any (λ f. block == f) less.items) _ (ap (λ b. b || false) (eq-eqb block block refl)));
  not_free = list_any_none (λ f. block == f) less.items other;
}
  where
    apart : IsDistinct nat_eq (less.items ++ block ∷ [])
    apart = subst (IsDistinct nat_eq) parts all.distinct

    other : All (λ f. (block == f) ≡ false) less.items
    other i d within = ne_eqb block (get_or less.items i d) differ
      where
        inside : length less.items < length (less.items ++ block ∷ [])
        inside = omega (arith, length_push less.items block)

        differ : block ≡ get_or less.items i d → ⊥
        differ same = false≢true (
            sym (apart_from_distinct nat_eq (less.items ++ block ∷ []) i (length less.items) d apart within inside)
            ∙ eq-eqb (get_or (less.items ++ block ∷ []) i d) (get_or (less.items ++ block ∷ []) (length less.items) d)
            (get_or_append_left less.items (block ∷ []) d i within ∙ sym same ∙ sym (get_or_push less.items block d (length less.items) refl)))

-- ---- a block is given back

module _ (values : List Value) (free : Vec ℕ Global) (block : ℕ) (within : block < length values) (apart : list_any (λ f. block == f) free.items ≡ false) (all : AreFree values free) where
  more_distinct : IsDistinct nat_eq (free.items ++ block ∷ [])
  more_distinct = IsDistinct-push nat_eq_equiv free.items block all.distinct apart

  more_below : (q : ℕ) → list_any (λ f. q == f) (free.items ++ block ∷ []) ≡ true → q < length values
  more_below q found = by_part (list_any (λ f. q == f) free.items) refl (sym (list_any-append (λ f. q == f) free.items (block ∷ [])) ∙ found)
    where
      by_last : (b : Bool) → (q == block) ≡ b → (b || false) ≡ true → q < length values
      by_last true same e = let is = eqb-true q block same in omega arith
      by_last false same e = absurd (false≢true e)

      by_part : (b : Bool) → list_any (λ f. q == f) free.items ≡ b → (b || ((q == block) || false)) ≡ true → q < length values
      by_part true before e = all.below q before
      by_part false before e = by_last (q == block) refl e

  pub has_room : length free.items < vec_capacity free
  has_room = omega (arith, length-le_from_distinct_below (free.items ++ block ∷ []) (length values) more_distinct more_below, length_push free.items block, all.room)

  pub one_given : (more : Vec ℕ Global) → more.items ≡ free.items ++ block ∷ [] → vec_capacity more ≡ vec_capacity free → AreFree values more
  one_given more pushed capacity = record {
    distinct = subst (IsDistinct nat_eq) (sym pushed) more_distinct;
    below = λ q found. more_below q (ap (list_any (λ f. q == f)) (sym pushed) ∙ found);
    room = omega (arith, all.room);
  }

-- ---- all blocks of a new pool are free

range_distinct : (n : ℕ) → IsDistinct nat_eq (range_with_len 0 n)
range_distinct n = IsDistinct-from_apart nat_eq (range_with_len 0 n) one
  where
    one : (i j d : ℕ) → i < j → j < length (range_with_len 0 n) → nat_eq (get_or (range_with_len 0 n) i d) (get_or (range_with_len 0 n) j d) ≡ false
    one i j d less within =
        let inside : j < n = omega (arith, length-range_with_len 0 n) in
        ap (λ x. nat_eq x (get_or (range_with_len 0 n) j d)) (get_or-range_with_len 0 n i d (omega arith))
        ∙ ap (nat_eq (0 + i)) (get_or-range_with_len 0 n j d inside)
        ∙ ne_eqb (0 + i) (0 + j) (λ same. absurd (omega arith))

range_below : (a n q : ℕ) → list_any (λ f. q == f) (range_with_len a n) ≡ true → q < a + n
range_below a zero q found = absurd (false≢true found)
range_below a (suc n) q found = by_first (q == a) refl found (range_below (a + 1) n q)
  where
    by_first : (b : Bool) → (q == a) ≡ b → (b || list_any (λ f. q == f) (range_with_len (a + 1) n)) ≡ true → (list_any (λ f. q == f) (range_with_len (a + 1) n) ≡ true → q < (a + 1) + n) → q < a + suc n
    by_first true same e later = let is = eqb-true q a same in omega arith
    by_first false same e later = let less = later e in omega arith

pub range_more : (n : ℕ) → range_with_len 0 n ++ n ∷ [] ≡ range_with_len 0 (n + 1)
range_more n = ap (λ xs. xs ++ n ∷ []) (sym (map-id (range_with_len 0 n))) ∙ sym (map-range_with_len_more (λ x. x) 0 n n (omega arith)) ∙ map-id (range_with_len 0 (n + 1))

pub all_empty : (xs : List Value) (n : ℕ) (v : Value) → words_of v ≡ [] → xs ≡ replicate n v → xs ≡ replicate n empty_value
all_empty xs n v none same = same ∙ ap (replicate n) (Value-by_words v empty_value none)

pub all_free : (values : List Value) (free : Vec ℕ Global) (n : ℕ) → free.items ≡ range_with_len 0 n → length values ≡ n → n ≤ vec_capacity free → AreFree values free
all_free values free n items long room = record {
  distinct = subst (IsDistinct nat_eq) (sym items) (range_distinct n);
  below = λ q found. let less = range_below 0 n q (ap (list_any (λ f. q == f)) (sym items) ∙ found) in omega arith;
  room = omega arith;
}
