-- Lanes of cores and seats.
use Rattle.std.proofs.Common.{◌≡◌, ◌≤◌, ◌<◌, ◌+◌, ℕ, zero, suc, refl, sym, ◌∙◌, ap, arith, List, [], ◌∷◌, ◌++◌, map, length, take, drop, drop_of_length-le, append-nil, Option, Some, None}
use Rattle.bus_semantics.specs.Common.{take-length, slice_get, option_map, slice_get-map, same_Some, none-some}
use Rattle.core_turn.specs.Cores.{CoreState}
use Rattle.cross_core_table.specs.declared.seats.CoreSeat.{CoreSeat}
use Rattle.live_lanes.specs.declared.lanes.Lane.{Lane}
use Rattle.live_lanes.specs.Lanes.{core_in, seat_in, with_seat, seats_in}

pub seats_on : (lanes more : List Lane) → seats_in (lanes ++ more) ≡ seats_in lanes ++ seats_in more
seats_on [] more = refl
seats_on (l ∷ lanes) more = by_seat l.seat (seats_on lanes more)
  where
    by_seat : (o : Option CoreSeat) → seats_in (lanes ++ more) ≡ seats_in lanes ++ seats_in more → with_seat o (seats_in (lanes ++ more)) ≡ with_seat o (seats_in lanes) ++ seats_in more
    by_seat None same = same
    by_seat (Some s) same = ap (λ ss. s ∷ ss) same

-- no more seats than lanes
pub seats_within : (lanes : List Lane) → length (seats_in lanes) ≤ length lanes
seats_within [] = omega arith
seats_within (l ∷ lanes) = by_seat l.seat (seats_within lanes)
  where
    by_seat : (o : Option CoreSeat) → length (seats_in lanes) ≤ length lanes → length (with_seat o (seats_in lanes)) ≤ suc (length lanes)
    by_seat None few = omega arith
    by_seat (Some s) few = omega arith

pub seats_more : (lanes : List Lane) (l : Lane) → seats_in (lanes ++ l ∷ []) ≡ seats_in lanes ++ with_seat l.seat []
seats_more lanes l = seats_on lanes (l ∷ [])

-- a lane at each place, and its core
pub core_at : (lanes : List Lane) (i : ℕ) (c : CoreState) → slice_get (map core_in lanes) i ≡ Some c → (l : Lane) × (slice_get lanes i ≡ Some l) × (l.core ≡ c)
core_at [] i c found = absurd (cc found)
core_at (l ∷ lanes) zero c found = (l, refl, cc found)
core_at (l ∷ lanes) (suc i) c found = core_at lanes i c found

pub core_of_lane : (lanes : List Lane) (i : ℕ) (l : Lane) → slice_get lanes i ≡ Some l → slice_get (map core_in lanes) i ≡ Some l.core
core_of_lane lanes i l found = slice_get-map core_in lanes i ∙ ap (option_map core_in) found

-- where the lanes have these seats, the seat at a place
pub seat_of_lane : (lanes : List Lane) (seats : List CoreSeat) (i : ℕ) (l : Lane) → map seat_in lanes ≡ map (λ (s : CoreSeat). Some s) seats → slice_get lanes i ≡ Some l
    → (s : CoreSeat) × (slice_get seats i ≡ Some s) × (l.seat ≡ Some s)
seat_of_lane lanes seats i l same found = by_seat (slice_get seats i) l.seat
    (sym (slice_get-map (λ (s : CoreSeat). Some s) seats i) ∙ (sym (ap (λ os. slice_get os i) same) ∙ (slice_get-map seat_in lanes i ∙ ap (option_map seat_in) found)))
  where
    by_seat : (o : Option CoreSeat) (x : Option CoreSeat) → option_map (λ (s : CoreSeat). Some s) o ≡ Some x → (s : CoreSeat) × (o ≡ Some s) × (x ≡ Some s)
    by_seat None x e = absurd (none-some x e)
    by_seat (Some s) x e = (s, refl, sym (same_Some _ _ e))

-- where each lane has a seat, the seats are theirs, at their places
pub seats_count : (lanes : List Lane) → ((i : ℕ) (l : Lane) → slice_get lanes i ≡ Some l → (s : CoreSeat) × (l.seat ≡ Some s)) → length (seats_in lanes) ≡ length lanes
seats_count [] each = refl
seats_count (l ∷ lanes) each = let s = each 0 l refl in by_has s.1 (seats_count lanes (λ i k found. each (suc i) k found))
  where
    by_has : {s : CoreSeat} → l.seat ≡ Some s → length (seats_in lanes) ≡ length lanes → length (seats_in (l ∷ lanes)) ≡ suc (length lanes)
    by_has {s} has same = ap (λ o. length (with_seat o (seats_in lanes))) has ∙ ap suc same

-- the seat at a place is that of the lane there
abbrev SeatOf : List Lane → (i : ℕ) → CoreSeat → Type 0
SeatOf lanes i s = (l : Lane) × (slice_get lanes i ≡ Some l) × (l.seat ≡ Some s)

pub seat_at : (lanes : List Lane) → ((i : ℕ) (l : Lane) → slice_get lanes i ≡ Some l → (s : CoreSeat) × (l.seat ≡ Some s)) → (i : ℕ) (s : CoreSeat) → slice_get (seats_in lanes) i ≡ Some s → SeatOf lanes i s
seat_at [] each i s found = absurd (cc found)
seat_at (l ∷ lanes) each i s found =
    let first = each 0 l refl in
    by_place i first.0 first.1 (λ j at. seat_at lanes (λ n k is. each (suc n) k is) j s at) (sym (ap (λ o. slice_get (with_seat o (seats_in lanes)) i) first.1) ∙ found)
  where
    by_place : (i : ℕ) (x : CoreSeat) → l.seat ≡ Some x → ((j : ℕ) → slice_get (seats_in lanes) j ≡ Some s → SeatOf lanes j s) → slice_get (x ∷ seats_in lanes) i ≡ Some s → SeatOf (l ∷ lanes) i s
    by_place zero x has more found = (l, refl, has ∙ found)
    by_place (suc j) x has more found = more j found

-- a whole slice that was written back
pub written_back : {X : Type 0} (old new : List X) (n : ℕ) → length new ≡ length old → n ≡ length old → take n (new ++ drop (length new) old) ≡ new
written_back old new n same long = ap (λ l. take n (new ++ l)) (drop_of_length-le old (omega (arith, same))) ∙ ap (take n) (append-nil new) ∙ ap (λ k. take k new) (long ∙ sym same) ∙ take-length new
