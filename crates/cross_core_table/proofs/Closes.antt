-- What the close of a round finds.
use Rattle.std.proofs.Common.{◌≡◌, ◌<◌, ◌≤◌, ◌*◌, ℕ, zero, suc, List, [], ◌∷◌, ◌++◌, Bool, false, set, take, map, length, get_or, slice_get, refl, sym, ◌∙◌, ap, subst, arith, Some}
use Rattle.bus_semantics.specs.Common.{length-map, IsInterleaved}
use mathlib.Core.Option.{some, some-injective, some-ne-none}
use lib.ListN.{get_elem?}
use Rattle.atomic_table.specs.Table.{Final, Seen}
use Rattle.bus_semantics.specs.declared.entries.Stamped.{Stamped}
use Rattle.port_objects.specs.declared.object.Object.{Object}
use Rattle.port_objects.specs.Objects.{ArePlans, IsOfPlan}
use Rattle.cross_core_table.specs.Common.{Opening, Part, View, CoreSeat, OpenRound, plan_in, Table, RoundRule, part_of_view, Place, AreSeatsOf, made_of, view_of, Among, HasAll, IsWhole}
use Rattle.cross_core_table.specs.Common.{HasTaken, TakenIn}
use Rattle.cross_core_table.specs.Closing.{IsLedHome, IsLed, IsClosed, RoundsEndWhole}
use Rattle.cross_core_table.proofs.Seating.{is_first}
use Rattle.cross_core_table.proofs.Takings.{is_taker, all_taken, among_all}

-- what the close finds: the entries in order of stamps, how many there are, and the objects
pub record Ended (r : OpenRound) (seats : List CoreSeat) (ws : List ℕ) (objects : List Object) : Type 0 where
  pub entries : List Stamped
  pub interleaved : IsInterleaved entries (map made_of seats)
  pub count : get_or ws 0 0 ≡ length entries
  pub fits : length entries ≤ r.cores * r.opening.room
  pub closed : IsClosed r.opening (map made_of seats) objects entries

same_lists : (xs ys : List (List Stamped)) → length xs ≡ length ys → ((j : ℕ) (y : List Stamped) → slice_get ys j ≡ Some y → slice_get xs j ≡ Some y) → xs ≡ ys
same_lists [] [] long each = refl
same_lists [] (y ∷ ys) long each = absurd (omega arith)
same_lists (x ∷ xs) [] long each = absurd (omega arith)
same_lists (x ∷ xs) (y ∷ ys) long each =
    let first : Some x ≡ Some y = each 0 y refl in
    let head : x ≡ y = cc first in
    let tail : xs ≡ ys = same_lists xs ys (omega arith) (λ j z h. each (suc j) z h) in
    λ i. head i ∷ tail i

mapped_seat : (seats : List CoreSeat) (j : ℕ) (y : List Stamped) → slice_get (map made_of seats) j ≡ Some y → (s : CoreSeat) × (slice_get seats j ≡ Some s) × (made_of s ≡ y)
mapped_seat [] j y e = absurd (cc e)
mapped_seat (s ∷ seats) zero y e = (s, refl, cc e)
mapped_seat (s ∷ seats) (suc j) y e = mapped_seat seats j y e

elem_some : (xs : List Object) (i : ℕ) (o : Object) → slice_get xs i ≡ Some o → get_elem? xs i ≡ some o
elem_some [] i o e = absurd (cc e)
elem_some (x ∷ xs) zero o e = let same : x ≡ o = cc e in ap (λ (y : Object). some y) same
elem_some (x ∷ xs) (suc i) o e = elem_some xs i o e

inside : (xs : List Object) (i : ℕ) (o : Object) → slice_get xs i ≡ Some o → i < length xs
inside [] i o e = absurd (cc e)
inside (x ∷ xs) zero o e = omega arith
inside (x ∷ xs) (suc i) o e = omega (arith, inside xs i o e)

pub has_ended : RoundsEndWhole → (r : OpenRound) (seats : List CoreSeat) (p : Place) (ws : List ℕ) (objects : List Object) → AreSeatsOf r seats → TakenIn r seats (Some p) → 1 ≤ r.cores
    → ArePlans (plan_in r.opening) r.opening.objects.value.items → Final (Seen (RoundRule r.opening) p.id p.me.0) ws objects → Ended r seats ws objects
has_ended law r seats p ws objects all taken some-core planned final =
    let k = r.opening in
    let t = is_taker r seats p taken in
    let s₀ : CoreSeat = t.0 in
    let more : List CoreSeat = t.1 in
    let h : HasTaken r s₀ more p = t.3 in
    let v : View = p.me.0 in
    let s : Table = final.0 in
    let rule : RoundRule k s = final.1.0 in
    let first = is_first k s rule p.id v final.1.1 (omega (arith, h.given)) in
    let there : get_elem? s.views 0 ≡ some v = subst (λ (i : ℕ). get_elem? s.views i ≡ some v) first.0 final.1.1 in
    let all' : AreSeatsOf r (s₀ ∷ more) = subst (λ (l : List CoreSeat). AreSeatsOf r l) t.2 all in
    let has : HasAll k s v = record { there = there; opening = h.opening; held = h.held; taken_in = all_taken r s₀ more p all' h } in
    let whole : IsWhole k s v = law k s v rule has in
    let homes : length s.homes ≡ length objects = final.3 in
    let parts : whole.parts ≡ map made_of seats = same_lists whole.parts (map made_of seats) (whole.count ∙ (h.given ∙ (sym all.count ∙ sym (length-map seats made_of))))
    (λ j y e. let m = mapped_seat seats j y e in part_is j m.0 y (subst (λ (l : List CoreSeat). slice_get l j ≡ Some m.0) t.2 m.1) m.2 whole) in
    let led : (o : ℕ) (x : Object) → slice_get objects o ≡ Some x → (y : IsLedHome k s o whole.entries) × (y.after ≡ x) = λ o x e.
    let y = whole.home o (omega (arith, homes, inside objects o x e)) in
    (y, some-injective y.after x (sym (final.4 o y.after y.there) ∙ elem_some objects o x e)) in
    record {
      entries = whole.entries;
      interleaved = subst (λ (l : List (List Stamped)). IsInterleaved whole.entries l) parts whole.interleaved;
      count = ap (λ (l : List ℕ). get_or l 0 0) (sym final.2) ∙ whole.stamps;
      fits = subst (λ (n : ℕ). length whole.entries ≤ n * k.room) h.given whole.fits;
      closed = record {
        interleaved = subst (λ (l : List (List Stamped)). IsInterleaved whole.entries l) parts whole.interleaved;
        planned = record {
          count = sym homes ∙ (rule.objects ∙ planned.count);
          each = λ i x e. let y = led i x e in subst (λ (z : Object). IsOfPlan (plan_in k) i z) y.1 y.0.planned;
        };
        led = λ o before after at e. let y = led o after e in subst (λ (z : Object). IsLed (plan_in k) o before z whole.entries) y.1 (y.0.led before at);
      };
    }
  where
    part_is : (j : ℕ) (s : CoreSeat) (y : List Stamped) → slice_get ((is_taker r seats p taken).0 ∷ (is_taker r seats p taken).1) j ≡ Some s → made_of s ≡ y
        → (whole : IsWhole r.opening final.0 p.me.0) → slice_get whole.parts j ≡ Some y
    part_is zero s y at is whole =
        let h = (is_taker r seats p taken).3 in
        let same : (is_taker r seats p taken).0 ≡ s = cc at in
        whole.own ∙ ap (λ (l : List Stamped). Some l) (h.made ∙ (ap made_of same ∙ is))
    part_is (suc j) s y at is whole =
        let t = is_taker r seats p taken in
        let h = t.3 in
        let q = (subst (λ (l : List CoreSeat). AreSeatsOf r l) t.2 all).each (suc j) s at in
        let among : Among p.me.0.joined (part_of_view (view_of s)) = subst (λ (l : List Part). Among l (part_of_view (view_of s))) (sym h.joined) (among_all t.1 j s at) in
        subst (λ (c : ℕ). slice_get whole.parts c ≡ Some y) q.at.idle.number (whole.others (part_of_view (view_of s)) among ∙ ap (λ (l : List Stamped). Some l) (q.at.made ∙ is))

-- ---- objects taken one after the other

take_next : (xs : List Object) (i : ℕ) (x : Object) → get_elem? xs i ≡ some x → take (suc i) xs ≡ take i xs ++ x ∷ []
take_next [] i x e = absurd (some-ne-none x (sym e))
take_next (y ∷ ys) zero x e = ap (λ (z : Object). z ∷ []) (some-injective y x e)
take_next (y ∷ ys) (suc i) x e = ap (λ (l : List Object). y ∷ l) (take_next ys i x e)

pub take_more : (xs : List Object) (i n : ℕ) (x : Object) → n ≡ suc i → get_elem? xs i ≡ some x → take n xs ≡ take i xs ++ x ∷ []
take_more xs i n x is e = subst (λ (m : ℕ). take m xs ≡ take i xs ++ x ∷ []) (sym is) (take_next xs i x e)

pub cleared : (l : List Bool) (i : ℕ) → get_or (set l i false) i false ≡ false
cleared [] i = refl
cleared (x ∷ xs) zero = refl
cleared (x ∷ xs) (suc i) = cleared xs i

pub word_first : (ws : List ℕ) (n : ℕ) → get_elem? ws 0 ≡ some n → get_or ws 0 0 ≡ n
word_first [] n e = absurd (some-ne-none n (sym e))
word_first (x ∷ xs) n e = some-injective x n e

pub third : {A B C : Type 0} → A × B × C → C
third (a, b, c) = c

pub closed_is : (k k' : Opening) (parts : List (List Stamped)) (xs ys : List Object) (es fs : List Stamped) → k' ≡ k → ys ≡ xs → fs ≡ es → IsClosed k parts xs es → IsClosed k' parts ys fs
closed_is k k' parts xs ys es fs key objects entries closed =
    subst (λ (z : Opening). IsClosed z parts ys fs) (sym key) (subst (λ (l : List Object). IsClosed k parts l fs) (sym objects) (subst (λ (l : List Stamped). IsClosed k parts xs l) (sym entries) closed))
