-- Flags that are set, one after the other.
use Rattle.std.proofs.Common.{◌≡◌, ℕ, zero, suc, ◌<◌, Bool, true, false, ◌&&◌, ◌||◌, not, refl, sym, ◌∙◌, ap, subst, arith, List, [], ◌∷◌, length, get_or, set, Option, Some}
use Rattle.bus_semantics.specs.Common.{slice_get, and_from, and_parts, false≢true, get_or-set_same, length-set, slice_get_within, slice_get-get_or, same_Some, Plan}
use Rattle.port_objects.specs.Common.{Kept, may_start_in}
use Rattle.port_objects.specs.declared.object.Object.{Object}
use Rattle.task_machine.specs.declared.instr.TaskSet.{TaskSet}
use Rattle.task_slots.specs.declared.slot.Slot.{Slot}
use Rattle.core_turn.specs.Awake.{AwakeState, Fits, StartsHeld, WaitersHeld}
use Rattle.core_runtime.specs.Common.{Seat, is_awake, IsWoken, AreWoken, IsThere, IsSeen, IsUp}
use Rattle.latches.proofs.Places.{Placed, here, there, placed}

-- ---- flags

set_keeps : (flags : List Bool) (n i : ℕ) → get_or flags i false ≡ true → get_or (set flags n true) i false ≡ true
set_keeps [] n i e = e
set_keeps (b ∷ flags) zero zero e = refl
set_keeps (b ∷ flags) zero (suc i) e = e
set_keeps (b ∷ flags) (suc n) zero e = e
set_keeps (b ∷ flags) (suc n) (suc i) e = set_keeps flags n i e

abbrev row_set : List (List Bool) → (n place : ℕ) → List (List Bool)
row_set rows n place = set rows n (set (get_or rows n []) place true)

row_keeps : (rows : List (List Bool)) (n place i j : ℕ) → get_or (get_or rows i []) j false ≡ true → get_or (get_or (row_set rows n place) i []) j false ≡ true
row_keeps [] n place i j e = e
row_keeps (r ∷ rows) zero place zero j e = set_keeps r place j e
row_keeps (r ∷ rows) zero place (suc i) j e = e
row_keeps (r ∷ rows) (suc n) place zero j e = e
row_keeps (r ∷ rows) (suc n) place (suc i) j e = row_keeps rows n place i j e

row_puts : (rows : List (List Bool)) (n place : ℕ) → place < length (get_or rows n []) → get_or (get_or (row_set rows n place) n []) place false ≡ true
row_puts [] n place within = absurd (omega arith)
row_puts (r ∷ rows) zero place within = get_or-set_same r place true false within
row_puts (r ∷ rows) (suc n) place within = row_puts rows n place within

row_width : (rows : List (List Bool)) (n place i : ℕ) → length (get_or (row_set rows n place) i []) ≡ length (get_or rows i [])
row_width [] n place i = refl
row_width (r ∷ rows) zero place zero = length-set r place true
row_width (r ∷ rows) zero place (suc i) = refl
row_width (r ∷ rows) (suc n) place zero = refl
row_width (r ∷ rows) (suc n) place (suc i) = row_width rows n place i

-- ---- of one core

pub woken_same : (a : AwakeState) → IsWoken a a
woken_same a = record {
  count = refl;
  rows = refl;
  widths = λ i. refl;
  slots = λ i on. on;
  events = λ i j on. on;
  even = λ even. even;
  fits = λ of first fits. fits;
  starts = λ p t objects of held. held;
  waiters = λ p t objects touched of held. held;
}

woken_then : (a b c : AwakeState) → IsWoken a b → IsWoken b c → IsWoken a c
woken_then a b c first second = record {
  count = second.count ∙ first.count;
  rows = second.rows ∙ first.rows;
  widths = λ i. second.widths i ∙ first.widths i;
  slots = λ i on. second.slots i (first.slots i on);
  events = λ i j on. second.events i j (first.events i j on);
  even = λ even. second.even (first.even even);
  fits = λ of begins fits. second.fits of begins (first.fits of begins fits);
  starts = λ p t objects of held. second.starts p t objects of (first.starts p t objects of held);
  waiters = λ p t objects touched of held. second.waiters p t objects touched of (first.waiters p t objects touched of held);
}

-- a slot woke, and none of its events
pub woken_slot : (a b : AwakeState) (slot : ℕ) → b.slots ≡ set a.slots slot true → b.events ≡ a.events → b.waiting ≡ set a.waiting slot false → b.areas ≡ a.areas → b.first ≡ a.first → ((of : List Slot) (first : ℕ) → Fits of first a → Fits of first b)
    → ((p : Plan) (t : TaskSet) (objects : List Object) (of : List Slot) → StartsHeld p t objects of a → StartsHeld p t objects of b)
    → ((p : Plan) (t : TaskSet) (objects : List Object) (touched : Option ℕ) (of : List Slot) (first : ℕ) → WaitersHeld p t objects touched of first a → WaitersHeld p t objects touched of first b) → IsWoken a b
woken_slot a b slot slots events waiting areas begins fits starts waiters =
    let slots_count : length b.slots ≡ length a.slots = ap length slots ∙ length-set a.slots slot true in
    record {
      count = slots_count;
      rows = ap length events;
      widths = λ i. ap (λ rs. length (get_or rs i [])) events;
      slots = λ i on. ap (λ fs. get_or fs i false) slots ∙ set_keeps a.slots slot i on;
      events = λ i j on. ap (λ rs. get_or (get_or rs i []) j false) events ∙ on;
      even = λ even. record { waiting = ap length waiting ∙ length-set a.waiting slot false ∙ even.waiting ∙ sym slots_count; areas = ap length areas ∙ even.areas ∙ sym slots_count };
      fits = fits;
      starts = starts;
      waiters = λ p t objects touched of held. waiters p t objects touched of b.first (subst (λ n. WaitersHeld p t objects touched of n a) (sym begins) held);
    }

module _ (a b : AwakeState) (slot place : ℕ) (slots : b.slots ≡ set a.slots slot true) (events : b.events ≡ row_set a.events slot place) where
  pub woken_one : b.waiting ≡ set a.waiting slot false → b.areas ≡ a.areas → b.first ≡ a.first → ((of : List Slot) (first : ℕ) → Fits of first a → Fits of first b) → ((p : Plan) (t : TaskSet) (objects : List Object) (of : List Slot) → StartsHeld p t objects of a → StartsHeld p t objects of b)
      → ((p : Plan) (t : TaskSet) (objects : List Object) (touched : Option ℕ) (of : List Slot) (first : ℕ) → WaitersHeld p t objects touched of first a → WaitersHeld p t objects touched of first b) → IsWoken a b
  woken_one waiting areas begins fits starts waiters = record {
    count = ap length slots ∙ length-set a.slots slot true;
    rows = ap length events ∙ length-set a.events slot (set (get_or a.events slot []) place true);
    widths = λ i. ap (λ rs. length (get_or rs i [])) events ∙ row_width a.events slot place i;
    slots = λ i on. ap (λ fs. get_or fs i false) slots ∙ set_keeps a.slots slot i on;
    events = λ i j on. ap (λ rs. get_or (get_or rs i []) j false) events ∙ row_keeps a.events slot place i j on;
    even = λ even.
        let slots_count : length b.slots ≡ length a.slots = ap length slots ∙ length-set a.slots slot true in
        record { waiting = ap length waiting ∙ length-set a.waiting slot false ∙ even.waiting ∙ sym slots_count; areas = ap length areas ∙ even.areas ∙ sym slots_count };
    fits = fits;
    starts = starts;
    waiters = λ p t objects touched of held. waiters p t objects touched of b.first (subst (λ n. WaitersHeld p t objects touched of n a) (sym begins) held);
  }

  pub awake_now : slot < length a.slots → place < length (get_or a.events slot []) → is_awake b slot place ≡ true
  awake_now within inside = and_from (get_or b.slots slot false) (get_or (get_or b.events slot []) place false) (ap (λ fs. get_or fs slot false) slots ∙ get_or-set_same a.slots slot true false within)
      (ap (λ rs. get_or (get_or rs slot []) place false) events ∙ row_puts a.events slot place inside)

-- ---- of all cores

pub are_same : (xs : List AwakeState) → AreWoken xs xs
are_same xs = record { count = refl; each = λ i a b was now. subst (IsWoken a) (same_Some _ _ (sym was ∙ now)) (woken_same a) }

pub are_then : (xs ys zs : List AwakeState) → AreWoken xs ys → AreWoken ys zs → AreWoken xs zs
are_then xs ys zs first second = record {
  count = second.count ∙ first.count;
  each = λ i a c was now.
      let inside : i < length zs = slice_get_within zs i c now in
      let within : i < length ys = omega (arith, second.count) in
      let b = get_or ys i c in
      let mid : slice_get ys i ≡ Some b = slice_get-get_or ys i c within in
      woken_then a b c (first.each i a b was mid) (second.each i b c mid now);
}

pub are_set : (xs : List AwakeState) (n : ℕ) (a b : AwakeState) → slice_get xs n ≡ Some a → IsWoken a b → AreWoken xs (set xs n b)
are_set xs n a b is woken = record { count = length-set xs n b; each = λ i x y was now. of_place i x y was (placed xs n b i y now) }
  where
    of_place : (i : ℕ) (x y : AwakeState) → slice_get xs i ≡ Some x → Placed AwakeState xs n b i y → IsWoken x y
    of_place i x y was (here at same) = subst (λ z. IsWoken z y) (same_Some _ _ (sym is ∙ sym (ap (slice_get xs) at) ∙ was)) (subst (IsWoken a) (sym same) woken)
    of_place i x y was (there other found) = subst (IsWoken x) (same_Some _ _ (sym was ∙ found)) (woken_same x)

pub there_still : (xs ys : List AwakeState) (s : Seat) → AreWoken xs ys → IsThere xs s → IsThere ys s
there_still xs ys s woken at =
    let inside : s.core < length xs = slice_get_within xs s.core at.core at.core_is in
    let within : s.core < length ys = omega (arith, woken.count) in
    let b = get_or ys s.core at.core in
    let now : slice_get ys s.core ≡ Some b = slice_get-get_or ys s.core at.core within in
    let one = woken.each s.core at.core b at.core_is now in
    let slot = at.slot in
    let place = at.place in
    record { core = b; core_is = now; slot = omega (arith, one.count); place = omega (arith, one.widths s.slot); even = one.even at.even }

-- ---- what is up

pub up_still : (xs ys : List AwakeState) (s : Seat) → AreWoken xs ys → IsThere xs s → IsUp xs s → IsUp ys s
up_still xs ys s woken at up = λ b now. (woken.each s.core at.core b at.core_is now).slots s.slot (up at.core at.core_is)

pub up_now : (xs : List AwakeState) (s : Seat) (a b : AwakeState) → slice_get xs s.core ≡ Some b → b.slots ≡ set a.slots s.slot true → s.slot < length a.slots → IsUp xs s
up_now xs s a b is slots within = λ x now. let same : b ≡ x = same_Some _ _ (sym is ∙ now) in subst (λ (y : AwakeState). get_or y.slots s.slot false ≡ true) same (ap (λ fs. get_or fs s.slot false) slots ∙ get_or-set_same a.slots s.slot true false within)

-- ---- what was looked at

pub seen_still : (k : Kept) (xs ys : List AwakeState) (event : ℕ) (s : Seat) → AreWoken xs ys → IsThere xs s → IsSeen k xs event s → IsSeen k ys event s
seen_still k xs ys event s woken at seen = λ b now. still (is_awake at.core s.slot s.place) (is_awake b s.slot s.place) (not (may_start_in k event)) (kept b (woken.each s.core at.core b at.core_is now)) (seen at.core at.core_is)
  where
    still : (x y z : Bool) → (x ≡ true → y ≡ true) → (x || z) ≡ true → (y || z) ≡ true
    still true y z keeps e = ap (λ v. v || z) (keeps refl)
    still false true z keeps e = refl
    still false false z keeps e = e

    kept : (b : AwakeState) → IsWoken at.core b → is_awake at.core s.slot s.place ≡ true → is_awake b s.slot s.place ≡ true
    kept b one on =
        let both = and_parts (get_or at.core.slots s.slot false) (get_or (get_or at.core.events s.slot []) s.place false) on in
        ap (λ v. v && get_or (get_or b.events s.slot []) s.place false) (one.slots s.slot both.0) ∙ one.events s.slot s.place both.1

pub seen_awake : (k : Kept) (xs : List AwakeState) (event : ℕ) (s : Seat) (a : AwakeState) → slice_get xs s.core ≡ Some a → is_awake a s.slot s.place ≡ true → IsSeen k xs event s
seen_awake k xs event s a is on = λ b now. let same : a ≡ b = same_Some _ _ (sym is ∙ now) in ap (λ v. v || not (may_start_in k event)) (subst (λ x. is_awake x s.slot s.place ≡ true) same on)

pub seen_held : (k : Kept) (xs : List AwakeState) (event : ℕ) (s : Seat) → may_start_in k event ≡ false → IsSeen k xs event s
seen_held k xs event s off = λ b now. last (is_awake b s.slot s.place) (may_start_in k event) off
  where
    last : (x y : Bool) → y ≡ false → (x || not y) ≡ true
    last true y e = refl
    last false true e = absurd (false≢true (sym e))
    last false false e = refl
