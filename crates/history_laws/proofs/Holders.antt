-- An area is held exactly where one running activation is inside.
use Rattle.std.proofs.Common.{◌≡◌, ℕ, suc, ◌+◌, Bool, true, false, ◌&&◌, ◌||◌, not, ◌==◌, if◌then◌else◌, refl, sym, ◌∙◌, ap, subst, arith, List, [], ◌∷◌, length, Option, Some}
use Rattle.bus_semantics.specs.Common.{and_parts, eq-eqb, eqb-true, false≢true, or_left, nat_tests, same_Some, list_any, list_all, ActKey, same_key, Plan, History, Noted, noted, note}
use Rattle.bus_semantics.specs.Common.{newest, count, is_of, runs, enters, leaves, is_held, first_area, touches, entries_of, is_open, enters_by, MayFollow, IsLegal, IsSound}
use Rattle.std.specs.Prelude.{nat_lt, unwrap_or}
use Rattle.bus_laws.specs.Common.{Mapping, Actor, Env, Machine, Act, Deed, Entry}
use Rattle.bus_semantics.specs.declared.entries.Deed.TheVariants as deed
use Rattle.history_laws.specs.OpenAreas.{all_but_innermost, open_after, innermost, are_nested}
use Rattle.bus_laws.proofs.Thinning.{clash, not_same}
use Rattle.history_laws.specs.Running.{areas_of}
use Rattle.history_laws.specs.Holding.{is_inside, HasHolder}
use Rattle.history_laws.proofs.Lists.{skipped}
use Rattle.history_laws.proofs.Keys.{mine, itself, key_is}
use Rattle.history_laws.proofs.OpenOnes.{areas_step, areas_idle, areas_nested, leaves_last}

abbrev by : Actor → Deed → Entry
by a d = record { actor = a; deed = d }

abbrev has : ℕ → List ℕ → Bool
has x areas = list_any (λ y. y == x) areas

far : (a x y : ℕ) → (x == y) ≡ false → (a + y == a + x) ≡ false
far a x y e = grind (arith, nat_tests)

-- the innermost area is not open a second time
none_below : (x : ℕ) (areas : List ℕ) → list_all (λ y. nat_lt y x) areas ≡ true → has x areas ≡ false
none_below x [] all = refl
none_below x (y ∷ areas) all =
    let parts = and_parts (nat_lt y x) (list_all (λ y. nat_lt y x) areas) all in
    let first : (y == x) ≡ false = by_less parts.0 in
    λ i. first i || none_below x areas parts.1 i
  where
    by_less : nat_lt y x ≡ true → (y == x) ≡ false
    by_less less = grind (arith, nat_tests)

once_open : (x : ℕ) (areas : List ℕ) → are_nested areas ≡ true → innermost areas ≡ Some x → has x (all_but_innermost areas) ≡ false
once_open x [] nested first = absurd (cc first)
once_open x (y ∷ areas) nested first =
    let same : y ≡ x = same_Some y x first in
    none_below x areas (subst (λ z. list_all (λ w. nat_lt w z) areas ≡ true) same (and_parts (list_all (λ w. nat_lt w y) areas) (are_nested areas) nested).0)

pub is_first : (x : ℕ) (areas : List ℕ) → innermost areas ≡ Some x → has x areas ≡ true
is_first x [] first = absurd (cc first)
is_first x (y ∷ areas) first = or_left (y == x) (has x areas) (eq-eqb y x (same_Some y x first))

left_other : (x y : ℕ) (areas : List ℕ) → (x == y) ≡ false → innermost areas ≡ Some y → has x (all_but_innermost areas) ≡ has x areas
left_other x y [] other first = absurd (cc first)
left_other x y (z ∷ areas) other first =
    let apart : (z == x) ≡ false = ap (λ n. n == x) (same_Some z y first) ∙ not_same x y other in
    λ i. sym apart i || has x areas

-- entering and leaving are an activation's
pub data Acts (a : Actor) : Type 0 where
  acts : (k : ActKey) → a ≡ Act k → Acts a

enterer : (p : Plan) (h : History) (a : Actor) (x : ℕ) → MayFollow p h (by a (deed.Enter x)) → Acts a
enterer p h (Act k) x may = acts k refl
enterer p h Env x may = absurd (false≢true may.fit)
enterer p h (Machine n) x may = absurd (false≢true (and_parts (nat_lt n (length p.machines)) false (and_parts (nat_lt n (length p.machines) && false) true may.fit).0).1)

pub leaver : (p : Plan) (h : History) (a : Actor) (x : ℕ) → MayFollow p h (by a (deed.Leave x)) → Acts a
leaver p h (Act k) x may = acts k refl
leaver p h Env x may = absurd (false≢true may.fit)
leaver p h (Machine n) x may = absurd (false≢true (and_parts (nat_lt n (length p.machines)) false (and_parts (nat_lt n (length p.machines) && false) true may.fit).0).1)

module _ (p : Plan) (m : Mapping) (sound : IsSound p m) (x : ℕ) where
  abbrev left : History → ℕ
  left h = count (λ (n : Noted). leaves x n.entry.deed) (noted h)

  abbrev entered : History → ℕ
  entered h = count (λ (n : Noted). enters x n.entry.deed) (noted h)

  abbrev latest : ActKey → History → Option Bool
  latest k h = newest (enters_by (Act k)) (entries_of p h (first_area p + x))

  -- nobody is inside, or one key is
  data State (h : History) : Type 0 where
    empty : left h ≡ entered h → ((k : ActKey) → is_inside k x h ≡ false) → State h
    taken : (k : ActKey) → suc (left h) ≡ entered h → is_inside k x h ≡ true → ((j : ActKey) → is_inside j x h ≡ true → j ≡ k) → latest k h ≡ Some true → State h

  inside_step : (k : ActKey) (h : History) (e : Entry) → IsLegal p h → MayFollow p h e → is_inside k x (e ∷ h) ≡ (if is_of k e then has x (open_after e.deed (areas_of k h)) else is_inside k x h)
  inside_step k h e legal may = ap (has x) (areas_step p m sound k h e legal may) ∙ by_own (is_of k e)
    where
      by_own : (b : Bool) → has x (if b then open_after e.deed (areas_of k h) else areas_of k h) ≡ (if b then has x (open_after e.deed (areas_of k h)) else has x (areas_of k h))
      by_own true = refl
      by_own false = refl

  module _ (h : History) (legal : IsLegal p h) where
    same_inside : (e : Entry) → MayFollow p h e → ((k : ActKey) → is_of k e ≡ true → has x (open_after e.deed (areas_of k h)) ≡ is_inside k x h) → (k : ActKey) → is_inside k x (e ∷ h) ≡ is_inside k x h
    same_inside e may same k = inside_step k h e legal may ∙ by_own (is_of k e) refl
      where
        by_own : (b : Bool) → is_of k e ≡ b → (if b then has x (open_after e.deed (areas_of k h)) else is_inside k x h) ≡ is_inside k x h
        by_own true own = same k own
        by_own false own = refl

    -- an entry that neither enters nor leaves the area
    apart : (e : Entry) → MayFollow p h e → enters x e.deed ≡ false → leaves x e.deed ≡ false → ((k : ActKey) → is_of k e ≡ true → has x (open_after e.deed (areas_of k h)) ≡ is_inside k x h)
        → ((k : ActKey) → latest k (e ∷ h) ≡ latest k h) → State h → State (e ∷ h)
    apart e may no_enter no_leave same last (empty counts none) = empty
        ((λ i. if no_leave i then suc (left h) else left h) ∙ counts ∙ (λ i. if sym no_enter i then suc (entered h) else entered h))
        (λ k. same_inside e may same k ∙ none k)
    apart e may no_enter no_leave same last (taken k counts inside only newer) = taken k
        ((λ i. suc (if no_leave i then suc (left h) else left h)) ∙ counts ∙ (λ i. if sym no_enter i then suc (entered h) else entered h))
        (same_inside e may same k ∙ inside) (λ j is. only j (sym (same_inside e may same j) ∙ is)) (last k ∙ newer)

    entering : (k : ActKey) → MayFollow p h (mine k (deed.Enter x)) → State h → State (mine k (deed.Enter x) ∷ h)
    entering k may (taken j counts inside only newer) = absurd (false≢true (sym (ap not (held counts)) ∙ may.answers.areas))
      where
        held : suc (left h) ≡ entered h → is_held x (noted h) ≡ true
        held counts = grind (arith, nat_tests)
    entering k may (empty counts none) =
        let e = mine k (deed.Enter x) in
        let equal : (x == x) ≡ true = eq-eqb x x refl in
        taken k
        (ap suc counts ∙ (λ i. if sym equal i then suc (entered h) else entered h))
        (inside_step k h e legal may ∙ (λ i. if itself k i then (equal i || has x (areas_of k h)) else is_inside k x h))
        (λ j inside. by_own j (same_key j k) refl (sym (inside_step j h e legal may) ∙ inside))
        (touched (eq-eqb (first_area p + x) (first_area p + x) refl))
      where
        by_own : (j : ActKey) (b : Bool) → same_key j k ≡ b → (if b then has x (x ∷ areas_of j h) else is_inside j x h) ≡ true → j ≡ k
        by_own j true own inside = sym (key_is j k own)
        by_own j false own inside = clash (is_inside j x h) inside (none j)

        touched : (first_area p + x == first_area p + x) ≡ true → latest k (mine k (deed.Enter x) ∷ h) ≡ Some true
        touched at = (λ i. newest (enters_by (Act k)) (if at i then note h (mine k (deed.Enter x)) ∷ entries_of p h (first_area p + x) else entries_of p h (first_area p + x))) ∙ ap (λ b. Some b) (itself k)

    leaving : (k : ActKey) → MayFollow p h (mine k (deed.Leave x)) → State h → State (mine k (deed.Leave x) ∷ h)
    leaving k may state = by_state (leaves_last p m sound k h x legal may) (areas_nested p m sound k h legal) state
      where
        by_state : innermost (areas_of k h) ≡ Some x → are_nested (areas_of k h) ≡ true → State h → State (mine k (deed.Leave x) ∷ h)
        by_state first nested (empty counts none) = clash (is_inside k x h) (is_first x (areas_of k h) first) (none k)
        by_state first nested (taken j counts inside only newer) =
            let equal : (x == x) ≡ true = eq-eqb x x refl in
            let me : k ≡ j = only k (is_first x (areas_of k h) first) in
            empty ((λ i. if equal i then suc (left h) else left h) ∙ counts)
            (λ i. inside_step i h (mine k (deed.Leave x)) legal may ∙ by_own i (same_key i k) refl me (only i))
          where
            by_own : (i : ActKey) (b : Bool) → same_key i k ≡ b → k ≡ j → (is_inside i x h ≡ true → i ≡ j) → (if b then has x (all_but_innermost (areas_of i h)) else is_inside i x h) ≡ false
            by_own i true own me it = subst (λ (z : ActKey). has x (all_but_innermost (areas_of z h)) ≡ false) (key_is i k own) (once_open x (areas_of k h) nested first)
            by_own i false own me it = by_inside (is_inside i x h) refl
              where
                by_inside : (c : Bool) → is_inside i x h ≡ c → c ≡ false
                by_inside false is = refl
                by_inside true is = let same : i ≡ k = it is ∙ sym me in clash (same_key i k) (ap (λ z. same_key z k) same ∙ itself k) own

    step : (a : Actor) (d : Deed) → MayFollow p h (by a d) → State h → State (by a d ∷ h)
    step a (deed.Enter y) may state = by_actor (enterer p h a y may) may
      where
        by_test : (k : ActKey) → MayFollow p h (mine k (deed.Enter y)) → (b : Bool) → (x == y) ≡ b → State (mine k (deed.Enter y) ∷ h)
        by_test k may true same = let number : x ≡ y = eqb-true x y same in subst (λ z. State (mine k (deed.Enter z) ∷ h)) number (entering k (subst (λ z. MayFollow p h (mine k (deed.Enter z))) (sym number) may) state)
        by_test k may false other =
            let off : (first_area p + y == first_area p + x) ≡ false = far (first_area p) x y other in
            apart (mine k (deed.Enter y)) may other refl (λ j own. λ i. not_same x y other i || has x (areas_of j h))
            (λ j. λ i. newest (enters_by (Act j)) (if off i then note h (mine k (deed.Enter y)) ∷ entries_of p h (first_area p + x) else entries_of p h (first_area p + x))) state

        by_actor : Acts a → MayFollow p h (by a (deed.Enter y)) → State (by a (deed.Enter y) ∷ h)
        by_actor (acts k who) may = subst (λ z. State (by z (deed.Enter y) ∷ h)) (sym who) (by_test k (subst (λ z. MayFollow p h (by z (deed.Enter y))) who may) (x == y) refl)
    step a (deed.Leave y) may state = by_actor (leaver p h a y may) may
      where
        by_test : (k : ActKey) → MayFollow p h (mine k (deed.Leave y)) → (b : Bool) → (x == y) ≡ b → State (mine k (deed.Leave y) ∷ h)
        by_test k may true same = let number : x ≡ y = eqb-true x y same in subst (λ z. State (mine k (deed.Leave z) ∷ h)) number (leaving k (subst (λ z. MayFollow p h (mine k (deed.Leave z))) (sym number) may) state)
        by_test k may false other =
            let off : (first_area p + y == first_area p + x) ≡ false = far (first_area p) x y other in
            let first = leaves_last p m sound k h y legal may in
            apart (mine k (deed.Leave y)) may refl other (λ j own. left_other x y (areas_of j h) other (subst (λ (z : ActKey). innermost (areas_of z h) ≡ Some y) (key_is j k own) first))
            (λ j. λ i. newest (enters_by (Act j)) (if off i then note h (mine k (deed.Leave y)) ∷ entries_of p h (first_area p + x) else entries_of p h (first_area p + x))) state

        by_actor : Acts a → MayFollow p h (by a (deed.Leave y)) → State (by a (deed.Leave y) ∷ h)
        by_actor (acts k who) may = subst (λ z. State (by z (deed.Leave y) ∷ h)) (sym who) (by_test k (subst (λ z. MayFollow p h (by z (deed.Leave y))) who may) (x == y) refl)
    step a d may state = apart (by a d) may refl refl (λ k own. refl) (λ k. skipped (enters_by (Act k)) (note h (by a d)) (entries_of p h (first_area p + x)) (touches p (first_area p + x) (note h (by a d))) refl) state

  state : (h : History) → IsLegal p h → State h
  state [] legal = empty refl (λ k. refl)
  state (e ∷ h) legal = step h legal.0 e.actor e.deed legal.1 (state h legal.0)

  pub has_holder : (h : History) → IsLegal p h → is_held x (noted h) ≡ true → HasHolder x h
  has_holder h legal held = by_state (state h legal)
    where
      runs_inside : (k : ActKey) → is_inside k x h ≡ true → runs k h ≡ true
      runs_inside k inside = by_running (runs k h) refl
        where
          by_running : (b : Bool) → runs k h ≡ b → b ≡ true
          by_running true is = refl
          by_running false is = absurd (false≢true (sym (ap (has x) (areas_idle k h is)) ∙ inside))

      by_state : State h → HasHolder x h
      by_state (empty counts none) = clash (is_held x (noted h)) held (ap not (eq-eqb (left h) (entered h) counts))
      by_state (taken k counts inside only newer) = record { key = k; running = runs_inside k inside; inside = inside }

  pub is_taken : (h : History) (k : ActKey) → IsLegal p h → is_inside k x h ≡ true → is_held x (noted h) ≡ true
  is_taken h k legal inside = by_state (state h legal)
    where
      by_state : State h → is_held x (noted h) ≡ true
      by_state (empty counts none) = clash (is_inside k x h) inside (none k)
      by_state (taken j counts within only newer) = more counts
        where
          more : suc (left h) ≡ entered h → is_held x (noted h) ≡ true
          more counts = grind (arith, nat_tests)

  pub alone : (h : History) (one other : ActKey) → IsLegal p h → is_inside one x h ≡ true → is_inside other x h ≡ true → other ≡ one
  alone h one other legal first second = by_state (state h legal)
    where
      by_state : State h → other ≡ one
      by_state (empty counts none) = clash (is_inside one x h) first (none one)
      by_state (taken j counts within only newer) = only other second ∙ sym (only one first)

  pub last_entered : (h : History) (k : ActKey) → IsLegal p h → is_inside k x h ≡ true → is_open (enters_by (Act k)) (entries_of p h (first_area p + x)) ≡ true
  last_entered h k legal inside = by_state (state h legal)
    where
      by_state : State h → is_open (enters_by (Act k)) (entries_of p h (first_area p + x)) ≡ true
      by_state (empty counts none) = clash (is_inside k x h) inside (none k)
      by_state (taken j counts within only newer) =
          let me : j ≡ k = sym (only k inside) in
          ap (λ o. unwrap_or o false) (subst (λ (z : ActKey). latest z h ≡ Some true) me newer)
