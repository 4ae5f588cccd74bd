-- How the seats of a round are taken in by the first.
use Rattle.std.proofs.Common.{◌≡◌, ◌<◌, ℕ, zero, suc, List, [], ◌∷◌, ◌++◌, map, length, length-append, slice_get, refl, sym, ◌∙◌, ap, subst, inl, inr, arith, Some, None}
use Rattle.std.proofs.lemmas.List.{map-append}
use Rattle.atomic_table.specs.Table.{Joins}
use Rattle.cross_core_table.specs.Common.{Part, CoreSeat, OpenRound, RoundRule, Sat, part_of_view, joining, spent, Place, IsSeatOf, AreSeatsOf, view_of, Among, HasTaken, TakenIn}
use Rattle.cross_core_table.proofs.Seating.{joins}

-- the first seat
pub first_taken : (r : OpenRound) (done : List CoreSeat) (seat : CoreSeat) → TakenIn r done None → IsSeatOf r (length done) seat → TakenIn r (done ++ seat ∷ []) (Some seat.place)
first_taken r [] seat t q = record {
  table = q.at.table;
  slots = q.at.idle.slots;
  opening = q.at.idle.opening;
  held = q.at.idle.held;
  given = q.given;
  made = q.at.made;
  joined = q.joined;
}
first_taken r (s ∷ done) seat t q = absurd t

-- each further one
pub next_taken : (r : OpenRound) (done : List CoreSeat) (seat : CoreSeat) (p n : Place) → TakenIn r done (Some p) → n.table_id ≡ p.table_id → n.me ≡ (joining p.me.0 seat.place.me.0, p.me.1)
    → TakenIn r (done ++ seat ∷ []) (Some n)
next_taken r [] seat p n t table me = absurd t
next_taken r (s ∷ more) seat p n t table me = record {
  table = table ∙ t.table;
  slots = ap (λ (y : Sat). y.1) me ∙ t.slots;
  opening = ap (λ (y : Sat). y.0.opening) me ∙ t.opening;
  held = ap (λ (y : Sat). y.0.held) me ∙ t.held;
  given = ap (λ (y : Sat). y.0.given) me ∙ t.given;
  made = ap (λ (y : Sat). y.0.made) me ∙ t.made;
  joined = ap (λ (y : Sat). y.0.joined) me ∙ (ap (λ (l : List Part). l ++ part_of_view (view_of seat) ∷ []) t.joined ∙ sym (map-append (λ (x : CoreSeat). part_of_view (view_of x)) more (seat ∷ [])));
}

-- the seat that takes in
pub is_taker : (r : OpenRound) (done : List CoreSeat) (p : Place) → TakenIn r done (Some p) → (s : CoreSeat) × (more : List CoreSeat) × (done ≡ s ∷ more) × HasTaken r s more p
is_taker r [] p t = absurd t
is_taker r (s ∷ more) p t = (s, more, refl, t)

-- each seat that was taken in is among those that the first knows
pub among_all : (more : List CoreSeat) (i : ℕ) (s : CoreSeat) → slice_get more i ≡ Some s → Among (map (λ x. part_of_view (view_of x)) more) (part_of_view (view_of s))
among_all [] i s e = absurd (cc e)
among_all (x ∷ more) zero s e = let same : x ≡ s = cc e in inl (ap (λ (y : CoreSeat). part_of_view (view_of y)) same)
among_all (x ∷ more) (suc i) s e = inr (among_all more i s e)

some_seat : (more : List CoreSeat) (i : ℕ) → i < length more → (s : CoreSeat) × (slice_get more i ≡ Some s)
some_seat [] i h = absurd (omega arith)
some_seat (x ∷ more) zero h = (x, refl)
some_seat (x ∷ more) (suc i) h = some_seat more i (omega arith)

pub all_taken : (r : OpenRound) (s : CoreSeat) (more : List CoreSeat) (p : Place) → AreSeatsOf r (s ∷ more) → HasTaken r s more p
    → (c : ℕ) → 0 < c → c < p.me.0.given → (x : Part) × (x.core ≡ c) × Among p.me.0.joined x
all_taken r s more p all t zero some-core below = absurd (omega arith)
all_taken r s more p all t (suc c) some-core below =
    let y = some_seat more c (omega (arith, t.given, all.count)) in
    (part_of_view (view_of y.0), (all.each (suc c) y.0 y.1).at.idle.number, subst (λ (l : List Part). Among l (part_of_view (view_of y.0))) (sym t.joined) (among_all more c y.0 y.1))

-- a further seat may be taken in
pub joins_taken : (r : OpenRound) (done : List CoreSeat) (seat : CoreSeat) (p : Place) → TakenIn r done (Some p) → IsSeatOf r (length done) seat → length done < r.cores
    → (p.table_id ≡ r.table) × (seat.place.table_id ≡ r.table) × (seat.place.me.1 ≡ []) × Joins (RoundRule r.opening) p.id p.me.0 seat.place.id seat.place.me.0 (joining p.me.0 seat.place.me.0) spent
joins_taken r done seat p t q below =
    let h = (is_taker r done p t).3 in
    (h.table, q.at.table, q.at.idle.slots, joins r.opening p.id p.me.0 seat.place.id seat.place.me.0 h.opening (omega (arith, h.given, below)) q.at.idle.opening q.at.idle.held)

-- ---- as the loop goes

pub at_seat : (done rest seats : List CoreSeat) (x : CoreSeat) → done ++ x ∷ rest ≡ seats → slice_get seats (length done) ≡ Some x
at_seat done rest seats x e = subst (λ (l : List CoreSeat). slice_get l (length done) ≡ Some x) e (here done)
  where
    here : (ys : List CoreSeat) → slice_get (ys ++ x ∷ rest) (length ys) ≡ Some x
    here [] = refl
    here (y ∷ ys) = here ys

pub fewer : (done rest seats : List CoreSeat) (x : CoreSeat) → done ++ x ∷ rest ≡ seats → length done < length seats
fewer done rest seats x e = omega (arith, ap (λ (l : List CoreSeat). length l) e, length-append done (x ∷ rest))

pub nothing_left : (l : List CoreSeat) → length l ≡ 0 → l ≡ []
nothing_left [] e = refl
nothing_left (x ∷ xs) e = absurd (omega arith)
