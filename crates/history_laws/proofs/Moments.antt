-- The value of an element has as many words as its type says, so those of a list's elements at one moment are together a value.
use Rattle.std.proofs.Common.{◌≡◌, ℕ, zero, suc, ◌+◌, ◌<◌, ◌≤◌, ℤ, Bool, true, false, ◌&&◌, ◌||◌, not, ◌==◌, if◌then◌else◌, refl, sym, ◌∙◌, ap, subst, arith, List, [], ◌∷◌, length, take}
use Rattle.std.proofs.Common.{drop, Option, Some, None}
use Rattle.bus_semantics.specs.Common.{and_from, and_parts, eqb-true, eq-eqb, leb-true, false≢true, same_Some, slice_get_within, length-append, length-drop, list_all-append, option_or}
use Rattle.bus_semantics.specs.Common.{option_map_or, slice_get, list_all, words_of, same_number, Plan, Runnable, every_from, positions, group_of, instance_of, to_write, to_publish}
use Rattle.bus_semantics.specs.Common.{to_publish_all, elems_of, words_at, words_of_all, marked, marks_fit, split, list_fits, Past, key_fits, elem_fits, is_writable, is_unqueued, holds}
use Rattle.bus_semantics.specs.Common.{activation_may_want, wish_fits, is_in_group, last_in, stored_in, last_stored, value_at, moment_of, is_proper, is_in, is_distinct, same_numbers}
use Rattle.bus_semantics.specs.Common.{limits_fit, elem_sound, agrees, accesses_elem, list_kind, list_sound, IsSound}
use Rattle.std.proofs.lemmas.List.{length-take-le}
use Rattle.std.specs.Prelude.{unwrap_or, nat_lt, nat_le, flat_map}
use Rattle.bus_laws.specs.Common.{ElemPlan, CoherentList, Mapping, Actor, Env, Machine, Act, Deed}
use Rattle.bus_semantics.specs.declared.entries.Deed.TheVariants as deed
use Rattle.history_laws.specs.LookUps.{sought, looked, all_at}
use Rattle.bus_laws.proofs.Thinning.{noting, option_same}
use Rattle.bus_laws.proofs.Bundling.{same_lists}
use Rattle.history_laws.proofs.Bounds.{wish_part}
use Rattle.history_laws.proofs.Values.{Words, few_words}

-- ---- what a wish stores

-- as many words as the element has
held_words : (p : Plan) (home : Option ℕ) (test : ElemPlan → Bool) (x : ℕ) (ws : List ℤ) → elem_fits p home (λ e. test e && holds ws e) x ≡ true → length ws ≡ words_at p x
held_words p home test x ws fit =
    let at = sought p.elements x (λ (e : ElemPlan). same_number e.instance home && (test e && holds ws e)) fit in
    let held = (and_parts (test at.item) (holds ws at.item) (and_parts (same_number at.item.instance home) (test at.item && holds ws at.item) at.holds).1).1 in
    eqb-true (length ws) at.item.words held ∙ sym (looked p.elements x at.item (λ (e : ElemPlan). e.words) 0 at.found)

written_words : (p : Plan) (a : Actor) (x : ℕ) (ws : List ℤ) → wish_fits p a (to_write x ws) ≡ true → length ws ≡ words_at p x
written_words p Env x ws fit = held_words p None (λ e. is_unqueued e && e.provided) x ws fit
written_words p (Machine n) x ws fit = absurd (false≢true (and_parts (nat_lt n (length p.machines)) false fit).1)
written_words p (Act k) x ws fit = held_words p (instance_of p k.runnable) is_writable x ws (and_parts (key_fits p k) (activation_may_want p k (instance_of p k.runnable) (to_write x ws)) fit).1

published_words : (p : Plan) (a : Actor) (x : ℕ) (ws : List ℤ) → wish_fits p a (to_publish x ws) ≡ true → length ws ≡ words_at p x
published_words p Env x ws fit = absurd (false≢true fit)
published_words p (Machine n) x ws fit = absurd (false≢true (and_parts (nat_lt n (length p.machines)) false fit).1)
published_words p (Act k) x ws fit = held_words p (instance_of p k.runnable) is_writable x ws (and_parts (key_fits p k) (activation_may_want p k (instance_of p k.runnable) (to_publish x ws)) fit).1

listed_words : (p : Plan) (a : Actor) (l written : ℕ) (ws : List ℤ) → wish_fits p a (to_publish_all l written ws) ≡ true → length ws ≡ words_of_all p (marked written (elems_of p l))
listed_words p Env l written ws fit = absurd (false≢true fit)
listed_words p (Machine n) l written ws fit = absurd (false≢true (and_parts (nat_lt n (length p.machines)) false fit).1)
listed_words p (Act k) l written ws fit =
    let all = words_of_all p (marked written (elems_of p l)) in
    let may = (and_parts (key_fits p k) (activation_may_want p k (instance_of p k.runnable) (to_publish_all l written ws)) fit).1 in
    let rest = (and_parts (list_fits p k.runnable false l) (marks_fit written (elems_of p l) && (length ws == all)) may).1 in
    eqb-true (length ws) all (and_parts (marks_fit written (elems_of p l)) (length ws == all) rest).1

-- the third of these, where the first holds
third : (b c x d : Bool) → b ≡ true → (not b || (c && (x && d))) ≡ true → x ≡ true
third true c x d is one = (and_parts x d (and_parts c (x && d) one).1).0
third false c x d is one = absurd (false≢true is)

module _ (p : Plan) (m : Mapping) (sound : IsSound p m) where
  -- ---- an element

  module _ (i : ℕ) (e : ElemPlan) (there : slice_get p.elements i ≡ Some e) where
    -- what is in its group has as many words
    words_alike : (x : ℕ) → is_in_group p e.group x ≡ true → words_at p x ≡ e.words
    words_alike x within = by_element (slice_get p.elements x) refl (option_same (group_of p x) (Some e.group) within)
      where
        by_element : (o : Option ElemPlan) → slice_get p.elements x ≡ o → option_map_or (λ (v : ElemPlan). Some v.group) o None ≡ Some e.group → option_map_or (λ (v : ElemPlan). v.words) o 0 ≡ e.words
        by_element None at group = absurd (cc group)
        by_element (Some v) at group =
            let all = (and_parts (list_all (λ a. list_all (agrees a) p.elements) p.elements) _ sound.joins).0 in
            let one : agrees v e ≡ true = all_at (agrees v) p.elements i e (all_at (λ a. list_all (agrees a) p.elements) p.elements x v all at) there in
            eqb-true v.words e.words (third (v.group == e.group) _ (v.words == e.words) _ (eq-eqb v.group e.group (same_Some v.group e.group group)) one)

    where_stored : (x : ℕ) (us ws : List ℤ) → length us ≡ words_at p x → (b : Bool) → is_in_group p e.group x ≡ b → (if b then Some us else None) ≡ Some ws → length ws ≡ e.words
    where_stored x us ws count true within is = ap length (sym (same_Some us ws is)) ∙ count ∙ words_alike x within
    where_stored x us ws count false within is = absurd (cc is)

    -- of words that are cut into those of some elements
    part_words : (xs : List ℕ) (us ws : List ℤ) → length us ≡ words_of_all p xs → last_in p e.group (split p xs us) ≡ Some ws → length ws ≡ e.words
    part_words [] us ws count is = absurd (cc is)
    part_words (x ∷ xs) us ws count is =
        let total : length us ≡ words_at p x + words_of_all p xs = count in
        let enough : words_at p x ≤ length us = omega arith in
        let shorter = length-drop (words_at p x) us in
        let rest : length (drop (words_at p x) us) ≡ words_of_all p xs = omega arith in
        by_rest (length-take-le (words_at p x) us enough) (part_words xs (drop (words_at p x) us) ws rest) (last_in p e.group (split p xs (drop (words_at p x) us))) refl is
      where
        by_rest : length (take (words_at p x) us) ≡ words_at p x → (last_in p e.group (split p xs (drop (words_at p x) us)) ≡ Some ws → length ws ≡ e.words)
            → (o : Option (List ℤ)) → last_in p e.group (split p xs (drop (words_at p x) us)) ≡ o → option_or o (if is_in_group p e.group x then Some (take (words_at p x) us) else None) ≡ Some ws → length ws ≡ e.words
        by_rest first before None at is = where_stored x (take (words_at p x) us) ws first (is_in_group p e.group x) refl is
        by_rest first before (Some vs) at is = before (at ∙ is)

    stored_count : (a : Actor) (d : Deed) (event : Option ℕ) (ws : List ℤ) → is_proper p (noting a d event) ≡ true → stored_in p e.group d ≡ Some ws → length ws ≡ e.words
    stored_count a (deed.Write x value) event ws proper is =
        where_stored x (words_of value) ws (written_words p a x (words_of value) (wish_part p (noting a (deed.Write x value) event) proper)) (is_in_group p e.group x) refl is
    stored_count a (deed.Publish x value) event ws proper is =
        where_stored x (words_of value) ws (published_words p a x (words_of value) (wish_part p (noting a (deed.Publish x value) event) proper)) (is_in_group p e.group x) refl is
    stored_count a (deed.PublishAll l written value) event ws proper is =
        part_words (marked written (elems_of p l)) (words_of value) ws (listed_words p a l written (words_of value) (wish_part p (noting a (deed.PublishAll l written value) event) proper)) is
    stored_count a d event ws proper is = absurd (cc is)

    last_count : (l : Past) → list_all (is_proper p) l ≡ true → (ws : List ℤ) → last_stored p e.group l ≡ Some ws → length ws ≡ e.words
    last_count [] fine ws is = absurd (cc is)
    last_count (n ∷ l) fine ws is =
        let parts = and_parts (is_proper p n) (list_all (is_proper p) l) fine in
        by_first parts.0 (last_count l parts.1 ws) (stored_in p e.group n.entry.deed) refl is
      where
        by_first : is_proper p n ≡ true → (last_stored p e.group l ≡ Some ws → length ws ≡ e.words) → (o : Option (List ℤ)) → stored_in p e.group n.entry.deed ≡ o → option_or o (last_stored p e.group l) ≡ Some ws → length ws ≡ e.words
        by_first proper before None at is = before is
        by_first proper before (Some vs) at is = stored_count n.entry.actor n.entry.deed n.event ws proper (at ∙ is)

    value_count : (l : Past) → list_all (is_proper p) l ≡ true → length (unwrap_or (last_stored p e.group l) (words_of e.init)) ≡ e.words
    value_count l fine = by_stored (last_stored p e.group l) refl
      where
        by_stored : (o : Option (List ℤ)) → last_stored p e.group l ≡ o → length (unwrap_or o (words_of e.init)) ≡ e.words
        by_stored None is =
            let whole : elem_sound e ≡ true = all_at elem_sound p.elements i e sound.elements there in
            let rest = (and_parts (limits_fit e.limits) _ (and_parts (is_in 1 16 e.words) _ whole).1).1 in
            eqb-true (length (words_of e.init)) e.words (and_parts (length (words_of e.init) == e.words) _ rest).0
        by_stored (Some ws) is = last_count l fine ws is

  -- ---- values

  pub value_words : (x : ℕ) (l : Past) → list_all (is_proper p) l ≡ true → length (value_at p x l) ≡ words_at p x
  value_words x l fine = by_element (slice_get p.elements x) refl
    where
      by_element : (o : Option ElemPlan) → slice_get p.elements x ≡ o → length (option_map_or (λ (e : ElemPlan). unwrap_or (last_stored p e.group l) (words_of e.init)) o []) ≡ option_map_or (λ (e : ElemPlan). e.words) o 0
      by_element None there = refl
      by_element (Some e) there = value_count x e there l fine

  moment_count : (xs : List ℕ) (l : Past) → list_all (is_proper p) l ≡ true → length (moment_of p xs l) ≡ words_of_all p xs
  moment_count [] l fine = refl
  moment_count (x ∷ xs) l fine = length-append (value_at p x l) (moment_of p xs l) ∙ ap (λ n. n + length (moment_of p xs l)) (value_words x l fine) ∙ ap (λ n. words_at p x + n) (moment_count xs l fine)

  -- ---- the words of a list

  abbrev is_few : ℕ → Bool
  is_few l = nat_le (words_of_all p (elems_of p l)) 16

  few_of : (i : ℕ) (r : Runnable) (l : ℕ) → list_sound p i r l ≡ true → is_few l ≡ true
  few_of i r l ok = by_list (slice_get p.lists l) ok
    where
      by_list : (o : Option CoherentList) → option_map_or (λ (c : CoherentList). (c.runnable == i) && (is_in 2 16 (length c.elems)
          && (nat_le (words_of_all p c.elems) 16 && list_all (λ x. accesses_elem (list_kind c.reads) x r.accesses r.targets) c.elems))) o false ≡ true
          → nat_le (words_of_all p (option_map_or (λ (c : CoherentList). c.elems) o [])) 16 ≡ true
      by_list None ok = absurd (false≢true ok)
      by_list (Some c) ok = (and_parts (nat_le (words_of_all p c.elems) 16) _ (and_parts (is_in 2 16 (length c.elems)) _ (and_parts (c.runnable == i) _ ok).1).1).0

  abbrev own_lists : ℕ → Runnable → Bool
  own_lists j v = list_all (list_sound p j v) v.lists && is_distinct (flat_map (elems_of p) v.lists)

  all_few : (i : ℕ) (rs : List Runnable) → every_from i own_lists rs ≡ true → list_all is_few (flat_map (λ (r : Runnable). r.lists) rs) ≡ true
  all_few i [] all = refl
  all_few i (r ∷ rs) all =
      let parts = and_parts (own_lists i r) (every_from (i + 1) own_lists rs) all in
      let own = own_few r.lists (and_parts (list_all (list_sound p i r) r.lists) (is_distinct (flat_map (elems_of p) r.lists)) parts.0).0 in
      list_all-append is_few r.lists (flat_map (λ (r : Runnable). r.lists) rs) ∙ and_from (list_all is_few r.lists) (list_all is_few (flat_map (λ (r : Runnable). r.lists) rs)) own (all_few (i + 1) rs parts.1)
    where
      own_few : (ls : List ℕ) → list_all (list_sound p i r) ls ≡ true → list_all is_few ls ≡ true
      own_few [] all = refl
      own_few (l ∷ ls) all =
          let parts = and_parts (list_sound p i r l) (list_all (list_sound p i r) ls) all in
          and_from (is_few l) (list_all is_few ls) (few_of i r l parts.0) (own_few ls parts.1)

  at_position : (f : ℕ → Bool) (n l : ℕ) → list_all f (positions n) ≡ true → l < n → f l ≡ true
  at_position f zero l all less = absurd (omega arith)
  at_position f (suc n) l all less =
      let parts = and_parts (list_all f (positions n)) (f n && true) (sym (list_all-append f (positions n) (n ∷ [])) ∙ all) in
      by_last (at_position f n l parts.0) (and_parts (f n) true parts.1).0 (l == n) refl
    where
      by_last : (l < n → f l ≡ true) → f n ≡ true → (b : Bool) → (l == n) ≡ b → f l ≡ true
      by_last before last true is = subst (λ k. f k ≡ true) (sym (eqb-true l n is)) last
      by_last before last false is =
          let other : l ≡ n → ⊥ = λ same. absurd (false≢true (sym is ∙ eq-eqb l n same)) in
          before (omega arith)

  pub list_few : (l : ℕ) → is_few l ≡ true
  list_few l = by_list (slice_get p.lists l) refl
    where
      by_list : (o : Option CoherentList) → slice_get p.lists l ≡ o → nat_le (words_of_all p (option_map_or (λ (c : CoherentList). c.elems) o [])) 16 ≡ true
      by_list None there = refl
      by_list (Some c) there =
          let gathered = flat_map (λ (r : Runnable). r.lists) p.runnables in
          let parts = and_parts (same_numbers gathered (positions (length p.lists))) (every_from 0 own_lists p.runnables) sound.lists in
          let all : list_all is_few (positions (length p.lists)) ≡ true = subst (λ ls. list_all is_few ls ≡ true) (same_lists gathered (positions (length p.lists)) parts.0) (all_few 0 p.runnables parts.1) in
          let within : l < length p.lists = slice_get_within p.lists l c there in
          subst (λ (o : Option CoherentList). nat_le (words_of_all p (option_map_or (λ (v : CoherentList). v.elems) o [])) 16 ≡ true) there (at_position is_few (length p.lists) l all within)

  pub moment_words : (list : ℕ) (l : Past) → list_all (is_proper p) l ≡ true → Words (moment_of p (elems_of p list) l)
  moment_words list l fine =
      let count = moment_count (elems_of p list) l fine in
      let few : words_of_all p (elems_of p list) ≤ 16 = leb-true (words_of_all p (elems_of p list)) 16 (list_few list) in
      few_words (moment_of p (elems_of p list) l) (omega arith)
