-- How the seats of a round are given.
use Rattle.std.proofs.Common.{◌≡◌, ◌≤◌, ℕ, zero, suc, List, [], ◌∷◌, ◌++◌, length, length-append, slice_get, refl, sym, ◌∙◌, ap, subst, arith, Some}
use Rattle.std.specs.Vec.{vec_capacity}
use Rattle.atomic_table.specs.Seated.{TableId}
use Rattle.bus_semantics.specs.declared.entries.Stamped.{Stamped}
use Rattle.cross_core_table.specs.Common.{Opening, CoreSeat, OpenRound, Sat, giving, newcomer, IsSeatOf, view_of, IsFresh, AreGiven}
use Rattle.cross_core_table.proofs.Acts.{same_seat}

abbrev pub round_of : TableId → Opening → ℕ → OpenRound
round_of t k n = record { table = t; opening = k; cores = n }

seat_more : (t : TableId) (k : Opening) (n m i : ℕ) (s : CoreSeat) → IsSeatOf (round_of t k n) (suc i) s → IsSeatOf (round_of t k m) (suc i) s
seat_more t k n m i s q = record { at = q.at; given = q.given; joined = q.joined }

seat_gives : (t : TableId) (k : Opening) (n : ℕ) (s s' : CoreSeat) → IsSeatOf (round_of t k n) 0 s → s'.place.table_id ≡ s.place.table_id → s'.place.me ≡ (giving s.place.me.0, [])
    → s'.made ≡ s.made → s'.core ≡ s.core → IsSeatOf (round_of t k (suc n)) 0 s'
seat_gives t k n s s' q table me made core = record {
  at = same_seat t k 0 s s' (giving s.place.me.0) q.at table core me made refl refl q.at.idle.held refl;
  given = ap (λ (y : Sat). y.0.given) me ∙ ap suc q.given;
  joined = ap (λ (y : Sat). y.0.joined) me ∙ q.joined;
}

seat_new : (t : TableId) (k : Opening) (n : ℕ) (s x : CoreSeat) → IsSeatOf (round_of t k (suc n)) 0 s → x.place.table_id ≡ t → x.place.me ≡ (newcomer s.place.me.0, [])
    → x.core ≡ suc n → x.made.items ≡ [] → k.room ≤ vec_capacity x.made → IsSeatOf (round_of t k (suc (suc n))) (suc n) x
seat_new t k n s x q table me core none space = record {
  at = record {
    table = table;
    idle = record {
      opening = ap (λ (y : Sat). y.0.opening) me ∙ q.at.idle.opening;
      number = ap (λ (y : Sat). y.0.core) me ∙ q.given;
      held = ap (λ (y : Sat). y.0.held) me;
      slots = ap (λ (y : Sat). y.1) me;
    };
    number = core;
    made = ap (λ (y : Sat). y.0.made) me ∙ sym none;
    within = subst (λ (l : List Stamped). length l ≤ k.room) (sym none) (omega arith);
    space = space;
  };
  given = ap (λ (y : Sat). y.0.given) me;
  joined = ap (λ (y : Sat). y.0.joined) me;
}

-- what stands at a place after a first item has changed and one was added
data Spot (xs : List CoreSeat) (a b : CoreSeat) (i : ℕ) (s : CoreSeat) : Type 0 where
  first : i ≡ 0 → a ≡ s → Spot xs a b i s
  between : (j : ℕ) → i ≡ suc j → slice_get xs i ≡ Some s → Spot xs a b i s
  last : i ≡ length xs → b ≡ s → Spot xs a b i s

spot : (x : CoreSeat) (xs : List CoreSeat) (a b : CoreSeat) (i : ℕ) (s : CoreSeat) → slice_get ((a ∷ xs) ++ b ∷ []) i ≡ Some s → Spot (x ∷ xs) a b i s
spot x xs a b zero s e = first refl (cc e)
spot x xs a b (suc i) s e = by_end xs i e (λ f. between i refl f) (λ f g. last (ap suc f) g)
  where
    by_end : (ys : List CoreSeat) (j : ℕ) → slice_get (ys ++ b ∷ []) j ≡ Some s → (slice_get ys j ≡ Some s → Spot (x ∷ xs) a b (suc i) s) → (j ≡ length ys → b ≡ s → Spot (x ∷ xs) a b (suc i) s) → Spot (x ∷ xs) a b (suc i) s
    by_end [] zero e f g = g refl (cc e)
    by_end [] (suc j) e f g = absurd (cc e)
    by_end (y ∷ ys) zero e f g = f e
    by_end (y ∷ ys) (suc j) e f g = by_end ys j e f (λ p q. g (ap suc p) q)

pub one_more_given : (t : TableId) (k : Opening) (n : ℕ) (s a x : CoreSeat) (rest : List CoreSeat) → AreGiven t k (suc n) (s ∷ rest)
    → a.place.table_id ≡ s.place.table_id → a.place.me ≡ (giving s.place.me.0, []) → a.made ≡ s.made → a.core ≡ s.core
    → x.place.table_id ≡ t → x.place.me ≡ (newcomer s.place.me.0, []) → x.core ≡ suc n → x.made.items ≡ [] → k.room ≤ vec_capacity x.made
    → AreGiven t k (suc (suc n)) ((a ∷ rest) ++ x ∷ [])
one_more_given t k n s a x rest all table me made core table' me' core' none space =
    let q = all.each 0 s refl in
    let fr = all.fresh 0 s refl in
    record {
      count = omega (arith, length-append (a ∷ rest) (x ∷ []), all.count);
      each = λ i y e. each_is i y (spot s rest a x i y e);
      fresh = λ i y e. fresh_is i y (spot s rest a x i y e);
    }
  where
    q₀ : IsSeatOf (round_of t k (suc n)) 0 s
    q₀ = all.each 0 s refl

    each_is : (i : ℕ) (y : CoreSeat) → Spot (s ∷ rest) a x i y → IsSeatOf (round_of t k (suc (suc n))) i y
    each_is i y (first z is) = subst (λ j. IsSeatOf (round_of t k (suc (suc n))) j y) (sym z)
        (subst (λ (u : CoreSeat). IsSeatOf (round_of t k (suc (suc n))) 0 u) is (seat_gives t k (suc n) s a q₀ table me made core))
    each_is i y (between j z at) = subst (λ m. IsSeatOf (round_of t k (suc (suc n))) m y) (sym z)
        (seat_more t k (suc n) (suc (suc n)) j y (subst (λ m. IsSeatOf (round_of t k (suc n)) m y) z (all.each i y at)))
    each_is i y (last z is) = subst (λ j. IsSeatOf (round_of t k (suc (suc n))) j y) (sym (z ∙ all.count))
        (subst (λ (u : CoreSeat). IsSeatOf (round_of t k (suc (suc n))) (suc n) u) is (seat_new t k n s x q₀ table' me' core' none space))

    fresh_is : (i : ℕ) (y : CoreSeat) → Spot (s ∷ rest) a x i y → IsFresh (view_of y)
    fresh_is i y (first z is) = subst (λ (u : CoreSeat). IsFresh (view_of u)) is (let f = all.fresh 0 s refl in record {
      made = ap (λ (y' : Sat). y'.0.made) me ∙ f.made;
      looks = ap (λ (y' : Sat). y'.0.looks) me ∙ f.looks;
      tries = ap (λ (y' : Sat). y'.0.tries) me ∙ f.tries;
    })
    fresh_is i y (between j z at) = all.fresh i y at
    fresh_is i y (last z is) = subst (λ (u : CoreSeat). IsFresh (view_of u)) is (record {
      made = ap (λ (y' : Sat). y'.0.made) me';
      looks = ap (λ (y' : Sat). y'.0.looks) me';
      tries = ap (λ (y' : Sat). y'.0.tries) me';
    })
