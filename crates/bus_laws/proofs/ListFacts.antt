-- What `lists_sound` says, list by list: lists are numbered by runnable, one after the other, and each names its runnable.
use Rattle.std.proofs.Common.{◌≡◌, ◌<◌, ◌≤◌, ℕ, zero, suc, ◌+◌, Bool, true, false, ◌&&◌, not, ◌==◌, cond, refl, sym, ◌∙◌, ap, subst, arith, List, [], ◌∷◌, ◌++◌, length, Option, Some, None}
use Rattle.std.specs.Prelude.{flat_map, nat_le, position, unwrap_or}
use Rattle.bus_semantics.specs.Common.{list_all, slice_get, position_or_len, option_map_or, and_parts, eqb-true, eq-eqb, ne_eqb, leb-true, lt-ltb, same_Some, slice_get_within, Plan}
use Rattle.bus_semantics.specs.Common.{Runnable, look, every_from, positions, elems_of, words_of_all, position_of, is_in, is_distinct, same_numbers, accesses_elem, list_kind, list_sound}
use Rattle.bus_semantics.specs.Common.{lists_sound}
use Rattle.std.specs.List.{prefix_len}
use Rattle.bus_semantics.specs.declared.plan.CoherentList.{CoherentList}
use Rattle.bus_laws.proofs.Thinning.{every_at, found_where}
use Rattle.bus_laws.proofs.Bundling.{same_lists, position_at, positions_counted, all_at}

-- ---- items of two lists, one behind the other

item_left : {X : Type 0} (xs ys : List X) (i : ℕ) (x : X) → slice_get xs i ≡ Some x → slice_get (xs ++ ys) i ≡ Some x
item_left [] ys i x at = absurd (cc at)
item_left (z ∷ xs) ys zero x at = at
item_left (z ∷ xs) ys (suc i) x at = item_left xs ys i x at

item_right : {X : Type 0} (xs ys : List X) (i k : ℕ) → k ≡ length xs + i → slice_get (xs ++ ys) k ≡ slice_get ys i
item_right [] ys i k is = ap (slice_get ys) (omega (arith, is))
item_right (z ∷ xs) ys i zero is = absurd (omega (arith, is))
item_right (z ∷ xs) ys i (suc k) is = item_right xs ys i k (omega (arith, is))

data InTwo {X : Type 0} (xs ys : List X) (i : ℕ) (x : X) : Type 0 where
  first : slice_get xs i ≡ Some x → InTwo xs ys i x
  second : (j : ℕ) → i ≡ length xs + j → slice_get ys j ≡ Some x → InTwo xs ys i x

in_two : {X : Type 0} (xs ys : List X) (i : ℕ) (x : X) → slice_get (xs ++ ys) i ≡ Some x → InTwo xs ys i x
in_two [] ys i x at = second i (omega arith) at
in_two (z ∷ xs) ys zero x at = first at
in_two {X} (z ∷ xs) ys (suc i) x at = longer (in_two xs ys i x at)
  where
    longer : InTwo xs ys i x → InTwo (z ∷ xs) ys (suc i) x
    longer (first there) = first there
    longer (second j is there) = second j (omega (arith, is)) there

-- ---- the lists of the runnables, one after the other

abbrev pub all_lists : List Runnable → List ℕ
all_lists rs = flat_map (λ (r : Runnable). r.lists) rs

-- how many lists stand before those of a runnable
abbrev pub lists_before : List Runnable → (runnable : ℕ) → ℕ
lists_before [] i = 0
lists_before (r ∷ rs) zero = 0
lists_before (r ∷ rs) (suc i) = length r.lists + lists_before rs i

-- whose list stands somewhere among them, and where among his
pub record Placed (rs : List Runnable) (k : ℕ) (l : ℕ) : Type 0 where
  pub owner : ℕ
  pub place : ℕ
  pub runnable : Runnable
  pub there : slice_get rs owner ≡ Some runnable
  pub among : slice_get runnable.lists place ≡ Some l
  pub counted : k ≡ lists_before rs owner + place

placed : (rs : List Runnable) (k l : ℕ) → slice_get (all_lists rs) k ≡ Some l → Placed rs k l
placed [] k l at = absurd (cc at)
placed (r ∷ rs) k l at = by_two (placed rs) (in_two r.lists (all_lists rs) k l at)
  where
    by_two : ((j m : ℕ) → slice_get (all_lists rs) j ≡ Some m → Placed rs j m) → InTwo r.lists (all_lists rs) k l → Placed (r ∷ rs) k l
    by_two rest (first own) = record { owner = 0; place = k; runnable = r; there = refl; among = own; counted = omega arith }
    by_two rest (second j is later) =
        let deeper = rest j l later in
        record { owner = suc deeper.owner; place = deeper.place; runnable = deeper.runnable; there = deeper.there; among = deeper.among; counted = omega (arith, is, deeper.counted) }

stands : (rs : List Runnable) (i j l : ℕ) (r : Runnable) → slice_get rs i ≡ Some r → slice_get r.lists j ≡ Some l → slice_get (all_lists rs) (lists_before rs i + j) ≡ Some l
stands [] i j l r there among = absurd (cc there)
stands (s ∷ rs) zero j l r there among = item_left s.lists (all_lists rs) (0 + j) l (ap (slice_get s.lists) (omega arith) ∙ subst (λ (t : Runnable). slice_get t.lists j ≡ Some l) (sym (same_Some s r there)) among)
stands (s ∷ rs) (suc i) j l r there among = item_right s.lists (all_lists rs) (lists_before rs i + j) (length s.lists + lists_before rs i + j) (omega arith) ∙ stands rs i j l r there among

-- ---- numbers in a row

row_place : (xs : List ℕ) (f j l : ℕ) → ((k x : ℕ) → slice_get xs k ≡ Some x → x ≡ f + k) → slice_get xs j ≡ Some l → prefix_len (λ n. not (n == l)) xs ≡ j
row_place [] f j l row at = absurd (cc at)
row_place (x ∷ xs) f zero l row at = ap (λ b. cond (not b) (1 + prefix_len (λ n. not (n == l)) xs) 0) (eq-eqb x l (same_Some x l at))
row_place (x ∷ xs) f (suc j) l row at =
    let own : x ≡ f + 0 = row 0 x refl in
    let later : l ≡ f + suc j = row (suc j) l at in
    let rest : prefix_len (λ n. not (n == l)) xs ≡ j = row_place xs (f + 1) j l (λ k y there. let is = row (suc k) y there in omega (arith, is)) at in
    ap (λ b. cond (not b) (1 + prefix_len (λ n. not (n == l)) xs) 0) (ne_eqb x l (λ same. omega (arith, own, later, same))) ∙ omega (arith, rest)

row_position : (xs : List ℕ) (f j l : ℕ) → ((k x : ℕ) → slice_get xs k ≡ Some x → x ≡ f + k) → slice_get xs j ≡ Some l → unwrap_or (position (λ n. n == l) xs) 0 ≡ j
row_position xs f j l row at =
    let place : position_or_len (λ n. n == l) xs ≡ j = row_place xs f j l row at in
    ap (λ b. unwrap_or (cond b (Some (position_or_len (λ n. n == l) xs)) None) 0) (lt-ltb (position_or_len (λ n. n == l) xs) (length xs) (omega (arith, place, slice_get_within xs j l at))) ∙ place

-- ---- a plan with sound lists

-- a list: it names its runnable, which has it at this place
pub record Listed (p : Plan) (l : ℕ) (c : CoherentList) : Type 0 where
  pub place : ℕ
  pub runnable : Runnable
  pub there : slice_get p.runnables c.runnable ≡ Some runnable
  pub among : slice_get runnable.lists place ≡ Some l

-- a list of a runnable
pub record Owned (p : Plan) (i l : ℕ) : Type 0 where
  pub list : CoherentList
  pub found : slice_get p.lists l ≡ Some list
  pub owner : list.runnable ≡ i

-- how many elements and words a list has, and that its runnable has the accesses to them
pub record Few (p : Plan) (c : CoherentList) : Type 0 where
  pub many : 2 ≤ length c.elems
  pub few : length c.elems ≤ 16
  pub short : words_of_all p c.elems ≤ 16

module _ (p : Plan) (sound : lists_sound p ≡ true) where
  abbrev own_lists : ℕ → Runnable → Bool
  own_lists i r = list_all (list_sound p i r) r.lists && is_distinct (flat_map (elems_of p) r.lists)

  halves : (same_numbers (all_lists p.runnables) (positions (length p.lists)) ≡ true) × (every_from 0 own_lists p.runnables ≡ true)
  halves = and_parts (same_numbers (all_lists p.runnables) (positions (length p.lists))) (every_from 0 own_lists p.runnables) sound

  numbered : all_lists p.runnables ≡ positions (length p.lists)
  numbered = same_lists (all_lists p.runnables) (positions (length p.lists)) halves.0

  own_halves : (i : ℕ) (r : Runnable) → slice_get p.runnables i ≡ Some r → (list_all (list_sound p i r) r.lists ≡ true) × (is_distinct (flat_map (elems_of p) r.lists) ≡ true)
  own_halves i r there =
      and_parts (list_all (list_sound p i r) r.lists) (is_distinct (flat_map (elems_of p) r.lists)) (every_at own_lists 0 p.runnables halves.1 i i r (omega arith) there)

  -- no element stands twice in the lists of a runnable
  pub elems_distinct : (i : ℕ) (r : Runnable) → slice_get p.runnables i ≡ Some r → is_distinct (flat_map (elems_of p) r.lists) ≡ true
  elems_distinct i r there = (own_halves i r there).1

  pub each_list_sound : (i j l : ℕ) (r : Runnable) → slice_get p.runnables i ≡ Some r → slice_get r.lists j ≡ Some l → list_sound p i r l ≡ true
  each_list_sound i j l r there among = all_at (list_sound p i r) r.lists (own_halves i r there).0 j l among

  abbrev rest_sound : Runnable → CoherentList → Bool
  rest_sound r c = nat_le (words_of_all p c.elems) 16 && list_all (λ x. accesses_elem (list_kind c.reads) x r.accesses r.targets) c.elems

  pub owned : (i j l : ℕ) (r : Runnable) → slice_get p.runnables i ≡ Some r → slice_get r.lists j ≡ Some l → Owned p i l
  owned i j l r there among =
      let at = found_where p.lists l (λ (c : CoherentList). (c.runnable == i) && (is_in 2 16 (length c.elems) && rest_sound r c)) (each_list_sound i j l r there among) in
      record { list = at.item; found = at.found; owner = eqb-true at.item.runnable i (and_parts (at.item.runnable == i) (is_in 2 16 (length at.item.elems) && rest_sound r at.item) at.holds).0 }

  -- a list of a runnable has the number that follows the lists before it
  pub list_number : (i j l : ℕ) (r : Runnable) → slice_get p.runnables i ≡ Some r → slice_get r.lists j ≡ Some l → l ≡ lists_before p.runnables i + j
  list_number i j l r there among =
      let at : slice_get (positions (length p.lists)) (lists_before p.runnables i + j) ≡ Some l =
      ap (λ (ns : List ℕ). slice_get ns (lists_before p.runnables i + j)) (sym numbered) ∙ stands p.runnables i j l r there among in
      let below : lists_before p.runnables i + j < length p.lists = omega (arith, slice_get_within (positions (length p.lists)) (lists_before p.runnables i + j) l at, positions_counted (length p.lists)) in
      same_Some l (lists_before p.runnables i + j) (sym at ∙ position_at (length p.lists) (lists_before p.runnables i + j) below)

  -- so they stand in a row from the first one on
  pub lists_in_a_row : (i j f l : ℕ) (r : Runnable) → slice_get p.runnables i ≡ Some r → slice_get r.lists 0 ≡ Some f → slice_get r.lists j ≡ Some l → l ≡ f + j
  lists_in_a_row i j f l r there begins among = omega (arith, list_number i 0 f r there begins, list_number i j l r there among)

  -- the list's place in its runnable
  pub list_position : (i j l : ℕ) (r : Runnable) → slice_get p.runnables i ≡ Some r → slice_get r.lists j ≡ Some l → position_of p l ≡ j
  list_position i j l r there among =
      let at = owned i j l r there among in
      let own : slice_get p.runnables at.list.runnable ≡ Some r = ap (slice_get p.runnables) at.owner ∙ there in
      ap (λ (o : Option CoherentList). option_map_or (λ (c : CoherentList). look p.runnables c.runnable (λ (v : Runnable). unwrap_or (position (λ n. n == l) v.lists) 0) 0) o 0) at.found
      ∙ ap (λ (o : Option Runnable). option_map_or (λ (v : Runnable). unwrap_or (position (λ n. n == l) v.lists) 0) o 0) own
      ∙ row_position r.lists (lists_before p.runnables i) j l (λ k x at. list_number i k x r there at) among

  pub listed : (l : ℕ) (c : CoherentList) → slice_get p.lists l ≡ Some c → Listed p l c
  listed l c at =
      let number : slice_get (all_lists p.runnables) l ≡ Some l = ap (λ (ns : List ℕ). slice_get ns l) numbered ∙ position_at (length p.lists) l (slice_get_within p.lists l c at) in
      by_place (placed p.runnables l l number)
    where
      by_place : Placed p.runnables l l → Listed p l c
      by_place where_it =
          let own = owned where_it.owner where_it.place l where_it.runnable where_it.there where_it.among in
          let same : own.list ≡ c = same_Some own.list c (sym own.found ∙ at) in
          let names : c.runnable ≡ where_it.owner = sym (ap (λ (d : CoherentList). d.runnable) same) ∙ own.owner in
          record { place = where_it.place; runnable = where_it.runnable; there = ap (slice_get p.runnables) names ∙ where_it.there; among = where_it.among }

  pub few_in_list : (l : ℕ) (c : CoherentList) → slice_get p.lists l ≡ Some c → Few p c
  few_in_list l c at = let where_it = listed l c at in by_sound where_it (each_list_sound c.runnable where_it.place l where_it.runnable where_it.there where_it.among)
    where
      by_sound : (where_it : Listed p l c) → list_sound p c.runnable where_it.runnable l ≡ true → Few p c
      by_sound where_it ok =
          let r = where_it.runnable in
          let whole : ((c.runnable == c.runnable) && (is_in 2 16 (length c.elems) && rest_sound r c)) ≡ true =
          subst (λ (o : Option CoherentList). option_map_or (λ (d : CoherentList). (d.runnable == c.runnable) && (is_in 2 16 (length d.elems) && rest_sound r d)) o false ≡ true) at ok in
          let parts = and_parts (is_in 2 16 (length c.elems)) (rest_sound r c) (and_parts (c.runnable == c.runnable) (is_in 2 16 (length c.elems) && rest_sound r c) whole).1 in
          let bounds = and_parts (nat_le 2 (length c.elems)) (nat_le (length c.elems) 16) parts.0 in
          record {
            many = leb-true 2 (length c.elems) bounds.0;
            few = leb-true (length c.elems) 16 bounds.1;
            short = leb-true (words_of_all p c.elems) 16 (and_parts (nat_le (words_of_all p c.elems) 16) (list_all (λ x. accesses_elem (list_kind c.reads) x r.accesses r.targets) c.elems) parts.1).0;
          }
