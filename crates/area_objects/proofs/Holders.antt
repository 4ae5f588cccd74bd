-- After a past of an area: as many Leaves as Enters, and nobody's Enter is the last of them; or one Enter more, and the last is one activation's.
use Rattle.std.proofs.Common.{◌≡◌, ℕ, suc, ◌+◌, Bool, true, false, not, ◌==◌, refl, sym, ◌∙◌, ap, subst, arith, [], ◌∷◌, length, Option}
use Rattle.std.specs.Prelude.{nat_lt}
use Rattle.bus_semantics.specs.Common.{and_parts, eq-eqb, eqb-true, false≢true, ActKey, same_key-Decides, same_key, Plan, Noted, Past, count, first_area, enters, leaves, is_held, Wanted}
use Rattle.bus_semantics.specs.Common.{to_enter, to_leave, wish_fits, environment_may_want, machine_may_want, is_proper, is_open, enters_by, same_actor, Follows, IsPastOf}
use Rattle.bus_semantics.specs.declared.entries.Actor.{Actor}
use Rattle.bus_semantics.specs.declared.entries.Actor.TheVariants.{Env, Machine, Act}
use Rattle.bus_semantics.specs.declared.entries.Deed.{Deed}
use Rattle.bus_semantics.specs.declared.entries.Deed.TheVariants as deed
use Rattle.object_kinds.proofs.Options.{clash}
use Rattle.object_kinds.proofs.Proper.{noting, wish_part}
use Rattle.area_objects.specs.Layout.{area_of}

abbrev entered : (area : ℕ) → Past → ℕ
entered x l = count (λ (n : Noted). enters x n.entry.deed) l

abbrev left : (area : ℕ) → Past → ℕ
left x l = count (λ (n : Noted). leaves x n.entry.deed) l

pub data State (x : ℕ) (l : Past) : Type 0 where
  outside : left x l ≡ entered x l → ((a : Actor) → is_open (enters_by a) l ≡ false) → State x l
  inside : (key : ActKey) → suc (left x l) ≡ entered x l → ((a : Actor) → is_open (enters_by a) l ≡ same_actor a (Act key)) → State x l

-- ---- keys

pub key_itself : (k : ActKey) → same_key k k ≡ true
key_itself k = (same_key-Decides k k).1 refl

pub same_keys : (j k : ActKey) → same_key j k ≡ true → j ≡ k
same_keys j k = (same_key-Decides j k).0

-- ---- what a state says

no_more : (x : ℕ) (l : Past) → left x l ≡ entered x l → is_held x l ≡ false
no_more x l even = ap not (eq-eqb (left x l) (entered x l) even)

one_more : (x : ℕ) (l : Past) → suc (left x l) ≡ entered x l → is_held x l ≡ true
one_more x l more = by_test (left x l == entered x l) refl
  where
    by_test : (b : Bool) → (left x l == entered x l) ≡ b → is_held x l ≡ true
    by_test true t = let same : left x l ≡ entered x l = eqb-true (left x l) (entered x l) t in absurd (omega arith)
    by_test false t = ap not t

pub record Holder (l : Past) : Type 0 where
  pub key : ActKey
  pub opens : is_open (enters_by (Act key)) l ≡ true

pub holder_of : (x : ℕ) (l : Past) → State x l → is_held x l ≡ true → Holder l
holder_of x l (outside even none) held = clash (is_held x l) held (no_more x l even)
holder_of x l (inside key more opens) held = record { key = key; opens = opens (Act key) ∙ key_itself key }

pub open_is_held : (x : ℕ) (l : Past) (key : ActKey) → State x l → is_open (enters_by (Act key)) l ≡ true → is_held x l ≡ true
open_is_held x l key (outside even none) opens = clash (is_open (enters_by (Act key)) l) opens (none (Act key))
open_is_held x l key (inside holder more is) opens = one_more x l more

pub one_open : (x : ℕ) (l : Past) (j k : ActKey) → State x l → is_open (enters_by (Act j)) l ≡ true → is_open (enters_by (Act k)) l ≡ true → j ≡ k
one_open x l j k (outside even none) this other = clash (is_open (enters_by (Act j)) l) this (none (Act j))
one_open x l j k (inside key more is) this other = same_keys j key (sym (is (Act j)) ∙ this) ∙ sym (same_keys k key (sym (is (Act k)) ∙ other))

-- ---- an entry more

-- an area that is touched by its number is that area
pub the_area : (p : Plan) (object x : ℕ) → (first_area p + x == object) ≡ true → x ≡ area_of p object
the_area p object x touching = let same : first_area p + x ≡ object = eqb-true (first_area p + x) object touching in omega arith

pub record ByActivation (a : Actor) : Type 0 where
  pub key : ActKey
  pub is : a ≡ Act key

by_activation : (p : Plan) (a : Actor) (w : Wanted) → wish_fits p a w ≡ true → (environment_may_want p w ≡ true → false ≡ true) → (machine_may_want w ≡ true → false ≡ true) → ByActivation a
by_activation p (Act k) w fit env machine = record { key = k; is = refl }
by_activation p Env w fit env machine = absurd (false≢true (env fit))
by_activation p (Machine n) w fit env machine = absurd (false≢true (machine (and_parts (nat_lt n (length p.machines)) (machine_may_want w) fit).1))

pub after_enter : (x : ℕ) (l : Past) (k : ActKey) (event : Option ℕ) → is_held x l ≡ false → State x l → State x (noting (Act k) (deed.Enter x) event ∷ l)
after_enter x l k event free (outside even none) = let here : (x == x) ≡ true = eq-eqb x x refl in inside k (rw here (ap suc even)) (λ a. refl)
after_enter x l k event free (inside key more is) = clash (is_held x l) (one_more x l more) free

pub after_leave : (x : ℕ) (l : Past) (a : Actor) (event : Option ℕ) → is_open (enters_by a) l ≡ true → State x l → State x (noting a (deed.Leave x) event ∷ l)
after_leave x l a event opens (outside even none) = clash (is_open (enters_by a) l) opens (none a)
after_leave x l a event opens (inside key more is) = let here : (x == x) ≡ true = eq-eqb x x refl in outside (rw here more) (λ b. refl)

module _ (p : Plan) (object : ℕ) where
  pub entered_by : (a : Actor) (x : ℕ) (event : Option ℕ) → is_proper p (noting a (deed.Enter x) event) ≡ true → ByActivation a
  entered_by a x event proper = by_activation p a (to_enter x) (wish_part p a (deed.Enter x) event refl proper) (λ fit. fit) (λ fit. fit)

  pub left_by : (a : Actor) (x : ℕ) (event : Option ℕ) → is_proper p (noting a (deed.Leave x) event) ≡ true → ByActivation a
  left_by a x event proper = by_activation p a (to_leave x) (wish_part p a (deed.Leave x) event refl proper) (λ fit. fit) (λ fit. fit)

  step : (l : Past) (a : Actor) (d : Deed) (event : Option ℕ) → Follows p object l (noting a d event) → State (area_of p object) l → State (area_of p object) (noting a d event ∷ l)
  step l a (deed.Enter x) event follows before =
      let same = the_area p object x follows.touching in
      let by = entered_by a x event follows.proper in
      let free : is_held x l ≡ false = flipped (is_held x l) follows.answers.areas in
      subst (λ z. State z (noting a (deed.Enter x) event ∷ l)) same
      (subst (λ b. State x (noting b (deed.Enter x) event ∷ l)) (sym by.is) (after_enter x l by.key event free (subst (λ z. State z l) (sym same) before)))
    where
      flipped : (b : Bool) → not b ≡ true → b ≡ false
      flipped false off = refl
      flipped true off = absurd (false≢true off)
  step l a (deed.Leave x) event follows before =
      let same = the_area p object x follows.touching in
      subst (λ z. State z (noting a (deed.Leave x) event ∷ l)) same (after_leave x l a event follows.matching (subst (λ z. State z l) (sym same) before))
  step l a d event follows before = same_state before
    where
      same_state : State (area_of p object) l → State (area_of p object) (noting a d event ∷ l)
      same_state (outside even none) = outside even none
      same_state (inside key more is) = inside key more is

  pub state_of : (l : Past) → IsPastOf p object l → State (area_of p object) l
  state_of [] past = outside refl (λ a. refl)
  state_of (n ∷ l) past = step l n.entry.actor n.entry.deed n.event past.1 (state_of l past.0)
