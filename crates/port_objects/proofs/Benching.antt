-- One entry on an object among all.
use Rattle.std.proofs.Common.{◌≡◌, ℕ, zero, suc, ◌+◌, ◌-◌, ◌<◌, ◌==◌, refl, sym, ◌∙◌, ap, subst, arith, List, [], ◌∷◌, length, get_or, Some, None}
use Rattle.std.specs.Prelude.{set, unwrap_or}
use Rattle.bus_semantics.specs.Common.{slice_get, slice_get-get_or, and_parts, eqb-true, length-set, Plan, Wanted, event_of, clock, object_of, touched, IsObject}
use Rattle.bus_semantics.specs.declared.entries.Actor.{Actor}
use Rattle.bus_semantics.specs.declared.entries.Entry.{Entry}
use Rattle.port_objects.specs.declared.bench.Benched.TheVariants.{Done, NotYet}
use Rattle.port_objects.specs.Common.{Object, IsOfPlan, ArePlans, HasObjects, IsAnswer, ActedOn, IsActed, Plain, Told}
use Rattle.object_kinds.specs.declared.acted.Shown.{Shown}
use Rattle.object_kinds.specs.declared.acted.Acted.{Acted}
use Rattle.object_kinds.specs.declared.acted.Acted.TheVariants as acted
use Rattle.object_kinds.proofs.Lists.{set_same}

pub touched_is : (p : Plan) (a : Actor) (w : Wanted) (n : ℕ) → object_of p a w ≡ Some n → touched p a w ≡ n
touched_is p a w n e = ap (λ o. unwrap_or o 0) e

pub found_at : (p : Plan) (objects : List Object) (n : ℕ) (o : Object) → HasObjects p → ArePlans p objects → IsObject p n → o ≡ get_or objects n o → slice_get objects n ≡ Some o
found_at p objects n o sound planned there same =
    let counted : p.objects ≡ clock p + 1 = eqb-true p.objects (clock p + 1) (and_parts (p.objects == clock p + 1) _ sound.counted).0 in
    let count = planned.count in
    let within : n < length objects = omega arith in
    slice_get-get_or objects n o within ∙ ap (λ z. Some z) (sym same)

data Held (n i : ℕ) (y x : Object) (xs : List Object) : Type 0 where
  here : i ≡ n → y ≡ x → Held n i y x xs
  there : slice_get xs i ≡ Some x → Held n i y x xs

held_in : (xs : List Object) (n i : ℕ) (y x : Object) → slice_get (set xs n y) i ≡ Some x → Held n i y x xs
held_in [] n i y x e = absurd (cc e)
held_in (z ∷ xs) zero zero y x e = here refl cc
held_in (z ∷ xs) zero (suc i) y x e = there e
held_in (z ∷ xs) (suc n) zero y x e = there e
held_in (z ∷ xs) (suc n) (suc i) y x e = deeper (held_in xs n i y x e)
  where
    deeper : Held n i y x xs → Held (suc n) (suc i) y x (z ∷ xs)
    deeper (here at same) = here (ap (λ k. suc k) at) same
    deeper (there found) = there found

pub set_planned : (p : Plan) (objects : List Object) (n : ℕ) (o : Object) → ArePlans p objects → IsOfPlan p n o → ArePlans p (set objects n o)
set_planned p objects n o planned new = record {
  count = length-set objects n o ∙ planned.count;
  each = λ i x found. of_place i x (held_in objects n i o x found);
}
  where
    of_place : (i : ℕ) (x : Object) → Held n i o x objects → IsOfPlan p i x
    of_place i x (here at same) = subst (λ k. IsOfPlan p k x) (sym at) (subst (IsOfPlan p n) same new)
    of_place i x (there found) = planned.each i x found

pub acted_on : (p : Plan) (n : ℕ) (a : Actor) (w : Wanted) (objects : List Object) (before now : Object) (r : Acted) → slice_get objects n ≡ Some before → IsAnswer p n a w before now r → ActedOn p n a w objects (set objects n now) r
acted_on p n a w objects before now (acted.Done e) found made = record { before = before; now = now; found = found; made = made; others = refl }
acted_on p n a w objects before now (acted.NotYet shown) found held = record {
  before = before;
  found = found;
  held = record { why = held.why; same = refl; none = held.none; flag = held.flag };
  same = ap (λ xs. Some xs) (ap (set objects n) held.same ∙ set_same objects n before found);
}

-- ---- what a plain bench tells after a wish on an object

abbrev pub told_by : Plain → Told
told_by b = record { room = b.room; next = Some b.next; objects = Some b.objects; work = None }

pub plain_made : (p : Plan) (n : ℕ) (a : Actor) (w : Wanted) (e : Entry) (old new : Plain) → 0 < old.room → ActedOn p n a w old.objects new.objects (acted.Done e)
    → new.room ≡ old.room - 1 → new.next ≡ suc old.next → IsActed p n a w (told_by old) (told_by new) (Done (record { stamp = old.next; entry = e; event = event_of w }))
plain_made p n a w e old new some on room next = record {
  entry = record { actor = on.made.actor; wish = on.made.wish; answer = on.made.answer; event = refl };
  room = omega (arith, some, room);
  next = (refl, ap (λ (i : ℕ). Some i) next);
  objects = on;
  work = refl;
}

pub plain_held : (p : Plan) (n : ℕ) (a : Actor) (w : Wanted) (shown : Shown) (old new : Plain) → ActedOn p n a w old.objects new.objects (acted.NotYet shown)
    → new.room ≡ old.room → new.next ≡ old.next → IsActed p n a w (told_by old) (told_by new) (NotYet shown)
plain_held p n a w shown old new on room next = record { entry = tt; room = room; next = ap (λ (i : ℕ). Some i) next; objects = on; work = refl }
