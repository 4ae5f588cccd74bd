-- How a round is opened.
use Rattle.std.proofs.Common.{◌≡◌, ◌≤◌, ◌*◌, ◌+◌, ◌==◌, ℕ, zero, suc, true, List, [], ◌∷◌, ◌++◌, length, length-append, replicate, get_or, set, slice_get, refl, sym, ◌∙◌, ap, subst, arith}
use Rattle.std.proofs.Common.{eqb-true, Some, Vec}
use Rattle.bus_semantics.specs.Common.{length-replicate, and_parts, vec_capacity, Global, plan_of, clock, groups_fit}
use Rattle.atomic_table.specs.Seated.{TableId}
use Rattle.bus_semantics.specs.declared.entries.Stamped.{Stamped}
use Rattle.bus_semantics.specs.declared.plan.BusPlan.{BusPlan}
use Rattle.port_objects.specs.declared.object.Object.{Object}
use Rattle.port_objects.specs.Common.{ArePlans, HasObjects}
use Rattle.cross_core_table.specs.Common.{Opening, CoreSeat, plan_in, place_of, Sat, giving, newcomer, first_view, IsSeatOf, view_of, IsFresh, AreRooms, AreGiven}
use Rattle.cross_core_table.specs.declared.space.Space.{Space}
use Rattle.cross_core_table.specs.Ready.{IsReady}
use Rattle.cross_core_table.specs.Opened.{HasSpace}
use Rattle.cross_core_table.proofs.Givings.{round_of, one_more_given}

-- ---- words 0

abbrev pub zeros : ℕ → List ℕ
zeros n = replicate n 0

zero_at : (n i : ℕ) → get_or (zeros n) i 0 ≡ 0
zero_at zero i = refl
zero_at (suc n) zero = refl
zero_at (suc n) (suc i) = zero_at n i

pub zeros_long : (ws : List ℕ) (n : ℕ) → ws ≡ zeros n → length ws ≡ n
zeros_long ws n e = ap (λ (l : List ℕ). length l) e ∙ length-replicate {A = ℕ} n 0

pub zeros_at : (ws : List ℕ) (n : ℕ) → ws ≡ zeros n → (i : ℕ) → get_or ws i 0 ≡ 0
zeros_at ws n e i = ap (λ (l : List ℕ). get_or l i 0) e ∙ zero_at n i

-- ---- rooms

abbrev Rooms : Type 0
Rooms = List (Vec Stamped Global)

before : (xs ys : Rooms) (i : ℕ) (v : Vec Stamped Global) → slice_get xs i ≡ Some v → slice_get (xs ++ ys) i ≡ Some v
before [] ys i v e = absurd (cc e)
before (x ∷ xs) ys zero v e = e
before (x ∷ xs) ys (suc i) v e = before xs ys i v e

at_last : (xs : Rooms) (v : Vec Stamped Global) → slice_get (xs ++ v ∷ []) (length xs) ≡ Some v
at_last [] v = refl
at_last (x ∷ xs) v = at_last xs v

-- the last room is taken
pub room_taken : (n room : ℕ) (old new : Rooms) (v : Vec Stamped Global) → old ≡ new ++ v ∷ [] → AreRooms n room old → (v.items ≡ []) × (room ≤ vec_capacity v)
room_taken n room old new v e all = all.each (length new) v (subst (λ (l : Rooms). slice_get l (length new) ≡ Some v) (sym e) (at_last new v))

pub rooms_left : (n m room : ℕ) (old new : Rooms) (v : Vec Stamped Global) → old ≡ new ++ v ∷ [] → n ≡ suc m → AreRooms n room old → AreRooms m room new
rooms_left n m room old new v e is all = record {
  count = omega (arith, ap (λ (l : Rooms). length l) e, length-append new (v ∷ []), all.count);
  each = λ i x at. all.each i x (subst (λ (l : Rooms). slice_get l i ≡ Some x) (sym e) (before new (v ∷ []) i x at));
}

-- ---- seats

pub given_first : (t : TableId) (k : Opening) (xs ys : List CoreSeat) (x : CoreSeat) → x.place.table_id ≡ t → x.place.me ≡ (first_view k, []) → x.core ≡ 0 → x.made.items ≡ []
    → k.room ≤ vec_capacity x.made → xs ≡ [] → ys ≡ xs ++ x ∷ [] → AreGiven t k 1 ys
given_first t k xs ys x table me core none space empty is =
    let one : ys ≡ x ∷ [] = is ∙ ap (λ (l : List CoreSeat). l ++ x ∷ []) empty in
    record {
      count = ap (λ (l : List CoreSeat). length l) one;
      each = λ i s at. each_is i s (subst (λ (l : List CoreSeat). slice_get l i ≡ Some s) one at);
      fresh = λ i s at. fresh_is i s (subst (λ (l : List CoreSeat). slice_get l i ≡ Some s) one at);
    }
  where
    first_is : IsSeatOf (round_of t k 1) 0 x
    first_is = record {
      at = record {
        table = table;
        idle = record { opening = ap (λ (y : Sat). y.0.opening) me; number = ap (λ (y : Sat). y.0.core) me; held = ap (λ (y : Sat). y.0.held) me; slots = ap (λ (y : Sat). y.1) me };
        number = core;
        made = ap (λ (y : Sat). y.0.made) me ∙ sym none;
        within = subst (λ (l : List Stamped). length l ≤ k.room) (sym none) (omega arith);
        space = space;
      };
      given = ap (λ (y : Sat). y.0.given) me;
      joined = ap (λ (y : Sat). y.0.joined) me;
    }

    each_is : (i : ℕ) (s : CoreSeat) → slice_get (x ∷ []) i ≡ Some s → IsSeatOf (round_of t k 1) i s
    each_is zero s at = let same : x ≡ s = cc at in subst (λ (y : CoreSeat). IsSeatOf (round_of t k 1) 0 y) same first_is
    each_is (suc i) s at = absurd (cc at)

    fresh_is : (i : ℕ) (s : CoreSeat) → slice_get (x ∷ []) i ≡ Some s → IsFresh (view_of s)
    fresh_is zero s at = let same : x ≡ s = cc at in subst (λ (y : CoreSeat). IsFresh (view_of y)) same
        (record { made = ap (λ (y : Sat). y.0.made) me; looks = ap (λ (y : Sat). y.0.looks) me; tries = ap (λ (y : Sat). y.0.tries) me })
    fresh_is (suc i) s at = absurd (cc at)

pub given_next : (t : TableId) (k : Opening) (n : ℕ) (xs ys : List CoreSeat) (s a x : CoreSeat) → 1 ≤ n → slice_get xs 0 ≡ Some s → AreGiven t k n xs
    → a.place.table_id ≡ s.place.table_id → a.place.me ≡ (giving s.place.me.0, []) → a.made ≡ s.made → a.core ≡ s.core
    → x.place.table_id ≡ t → x.place.me ≡ (newcomer s.place.me.0, []) → x.core ≡ n → x.made.items ≡ [] → k.room ≤ vec_capacity x.made
    → ys ≡ set xs 0 a ++ x ∷ [] → AreGiven t k (suc n) ys
given_next t k zero xs ys s a x some-core at all table me made core table' me' core' none space is = absurd (omega arith)
given_next t k (suc n) [] ys s a x some-core at all table me made core table' me' core' none space is = absurd (cc at)
given_next t k (suc n) (y ∷ rest) ys s a x some-core at all table me made core table' me' core' none space is =
    let same : y ≡ s = cc at in
    subst (λ (l : List CoreSeat). AreGiven t k (suc (suc n)) l) (sym is)
    (one_more_given t k n s a x rest (subst (λ (z : CoreSeat). AreGiven t k (suc n) (z ∷ rest)) same all) table me made core table' me' core' none space)

-- ---- the round is ready

pub is_ready : (t : TableId) (key : Opening) (p : BusPlan) (objects : List Object) (cores room : ℕ) (space : Space) (rooms : Vec (Vec Stamped Global) Global)
    → HasObjects (plan_of p) → ArePlans (plan_of p) objects → 1 ≤ cores → HasSpace (length objects) cores room space
    → t.words ≡ place_of (length objects) → t.slots ≡ length objects → key.plan.value ≡ p → key.objects.value.items ≡ objects → key.room ≡ room
    → rooms.items ≡ [] → vec_capacity rooms ≡ vec_capacity space.rooms → IsReady t key cores space.entries rooms space.returned
is_ready t key p objects cores room space rooms sound planned some-core had words slots plan items limit none capacity =
    let counted = and_parts ((plan_of p).objects == clock (plan_of p) + 1) _ sound.counted in
    let many : (plan_of p).objects ≡ clock (plan_of p) + 1 = eqb-true (plan_of p).objects (clock (plan_of p) + 1) counted.0 in
    let all : t.slots ≡ (plan_of p).objects = omega (arith, slots, planned.count, many) in
    record {
      words = words ∙ ap (λ (n : ℕ). place_of n) (sym slots);
      slots = subst (λ (b : BusPlan). t.slots ≡ (plan_of b).objects) (sym plan) all;
      groups = subst (λ (b : BusPlan). groups_fit (plan_of b) ≡ true) (sym plan) sound.groups;
      planned = subst (λ (l : List Object). ArePlans (plan_in key) l) (sym items) (subst (λ (b : BusPlan). ArePlans (plan_of b) objects) (sym plan) planned);
      some_core = some-core;
      written = had.entries.0;
      for_entries = subst (λ (n : ℕ). cores * n ≤ vec_capacity space.entries) (sym limit) had.entries.1;
      taken = none;
      for_parts = subst (λ (n : ℕ). cores ≤ n) (sym capacity) had.for_parts;
      given_back = had.returned.0;
      for_objects = subst (λ (n : ℕ). n ≤ vec_capacity space.returned) (sym slots) had.returned.1;
    }
