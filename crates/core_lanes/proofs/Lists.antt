-- Lanes of cores and seats.
use Rattle.std.proofs.Common.{◌≡◌, ◌≤◌, ◌+◌, ℕ, zero, suc, refl, sym, ◌∙◌, ap, arith, List, [], ◌∷◌, ◌++◌, map, length, take, drop, drop_of_length-le, append-nil, Option, Some, None}
use Rattle.bus_semantics.specs.Common.{take-length, slice_get}
use Rattle.core_turn.specs.Cores.{CoreState}
use Rattle.cross_core_table.specs.declared.seats.CoreSeat.{CoreSeat}
use Rattle.core_lanes.specs.declared.lanes.Lane.{Lane}
use Rattle.core_lanes.specs.Lanes.{lane_of, lanes_of, core_in, with_seat, seats_in}

pub seats_on : (lanes more : List Lane) → seats_in (lanes ++ more) ≡ seats_in lanes ++ seats_in more
seats_on [] more = refl
seats_on (l ∷ lanes) more = by_seat l.seat (seats_on lanes more)
  where
    by_seat : (o : Option CoreSeat) → seats_in (lanes ++ more) ≡ seats_in lanes ++ seats_in more → with_seat o (seats_in (lanes ++ more)) ≡ with_seat o (seats_in lanes) ++ seats_in more
    by_seat None same = same
    by_seat (Some s) same = ap (λ ss. s ∷ ss) same

-- no more seats than lanes
pub seats_within : (lanes : List Lane) → length (seats_in lanes) ≤ length lanes
seats_within [] = omega arith
seats_within (l ∷ lanes) = by_seat l.seat (seats_within lanes)
  where
    by_seat : (o : Option CoreSeat) → length (seats_in lanes) ≤ length lanes → length (with_seat o (seats_in lanes)) ≤ suc (length lanes)
    by_seat None few = omega arith
    by_seat (Some s) few = omega arith

pub lanes_count : (cores : List CoreState) (seats : List CoreSeat) → length (lanes_of cores seats) ≡ length cores
lanes_count [] seats = refl
lanes_count (c ∷ cores) [] = ap suc (lanes_count cores [])
lanes_count (c ∷ cores) (s ∷ seats) = ap suc (lanes_count cores seats)

-- the core and the seat at a place of as many lanes
pub record LaneAt (cores : List CoreState) (seats : List CoreSeat) (i : ℕ) (l : Lane) : Type 0 where
  pub core_is : slice_get cores i ≡ Some l.core
  pub seat : CoreSeat
  pub seat_is : slice_get seats i ≡ Some seat
  pub has : l.seat ≡ Some seat

pub lane_at : (cores : List CoreState) (seats : List CoreSeat) (i : ℕ) (l : Lane) → length seats ≡ length cores → slice_get (lanes_of cores seats) i ≡ Some l → LaneAt cores seats i l
lane_at [] seats i l same found = absurd (cc found)
lane_at (c ∷ cores) [] i l same found = absurd (omega (arith, same))
lane_at (c ∷ cores) (s ∷ seats) zero l same found = let is : lane_of c (Some s) ≡ l = cc in record { core_is = ap (λ (x : Lane). Some x.core) is; seat = s; seat_is = refl; has = ap (λ (x : Lane). x.seat) (sym is) }
lane_at (c ∷ cores) (s ∷ seats) (suc i) l same found =
    let more = lane_at cores seats i l (omega (arith, same)) found in
    record { core_is = more.core_is; seat = more.seat; seat_is = more.seat_is; has = more.has }

-- a lane at each place, and its core
pub core_at : (lanes : List Lane) (i : ℕ) (c : CoreState) → slice_get (map core_in lanes) i ≡ Some c → (l : Lane) × (slice_get lanes i ≡ Some l) × (l.core ≡ c)
core_at [] i c found = absurd (cc found)
core_at (l ∷ lanes) zero c found = (l, refl, cc found)
core_at (l ∷ lanes) (suc i) c found = core_at lanes i c found

-- where each lane has a seat, the seats are theirs, at their places
pub seats_count : (lanes : List Lane) → ((i : ℕ) (l : Lane) → slice_get lanes i ≡ Some l → (s : CoreSeat) × (l.seat ≡ Some s)) → length (seats_in lanes) ≡ length lanes
seats_count [] each = refl
seats_count (l ∷ lanes) each = let s = each 0 l refl in by_has s.1 (seats_count lanes (λ i k found. each (suc i) k found))
  where
    by_has : {s : CoreSeat} → l.seat ≡ Some s → length (seats_in lanes) ≡ length lanes → length (seats_in (l ∷ lanes)) ≡ suc (length lanes)
    by_has {s} has same = ap (λ o. length (with_seat o (seats_in lanes))) has ∙ ap suc same

-- the seat at a place is that of the lane there
abbrev SeatOf : List Lane → (i : ℕ) → CoreSeat → Type 0
SeatOf lanes i s = (l : Lane) × (slice_get lanes i ≡ Some l) × (l.seat ≡ Some s)

pub seat_at : (lanes : List Lane) → ((i : ℕ) (l : Lane) → slice_get lanes i ≡ Some l → (s : CoreSeat) × (l.seat ≡ Some s)) → (i : ℕ) (s : CoreSeat) → slice_get (seats_in lanes) i ≡ Some s → SeatOf lanes i s
seat_at [] each i s found = absurd (cc found)
seat_at (l ∷ lanes) each i s found =
    let first = each 0 l refl in
    by_place i first.0 first.1 (λ j at. seat_at lanes (λ n k is. each (suc n) k is) j s at) (sym (ap (λ o. slice_get (with_seat o (seats_in lanes)) i) first.1) ∙ found)
  where
    by_place : (i : ℕ) (x : CoreSeat) → l.seat ≡ Some x → ((j : ℕ) → slice_get (seats_in lanes) j ≡ Some s → SeatOf lanes j s) → slice_get (x ∷ seats_in lanes) i ≡ Some s → SeatOf (l ∷ lanes) i s
    by_place zero x has more found = (l, refl, has ∙ found)
    by_place (suc j) x has more found = more j found

pub seats_more : (lanes : List Lane) (l : Lane) → seats_in (lanes ++ l ∷ []) ≡ seats_in lanes ++ with_seat l.seat []
seats_more lanes l = seats_on lanes (l ∷ [])

-- a whole slice that was written back
pub written_back : (old new : List Lane) (n : ℕ) → length new ≡ length old → n ≡ length old → take n (new ++ drop (length new) old) ≡ new
written_back old new n same long = ap (λ l. take n (new ++ l)) (drop_of_length-le old (omega (arith, same))) ∙ ap (take n) (append-nil new) ∙ ap (λ k. take k new) (long ∙ sym same) ∙ take-length new
